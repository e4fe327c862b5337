-- Tries for a need, one after another, until one is answered.
use Rattle.std.proofs.Common.{map, cond, append_assoc, append-nil, arith, ◌≡◌, ◌<◌, ◌≤◌, inl, inr, ℕ, Bool, true, false, nat_le, not, ◌&&◌, ◌==◌, List, [], ◌∷◌, ◌++◌, Option, None, Some, slice_get, refl, sym, ap, ◌∙◌, subst}
use Rattle.std.specs.List.{AllByRecursion, filter, flat_map}
use Rattle.std.proofs.lemmas.Bool.Decides.{nat_tests}
use Rattle.hal_base.specs.declared.record.Record.{Record}
use Rattle.hal_base.specs.declared.shape.Shape.{Shape}
use Rattle.hal_outside.specs.DiskCalls as disk
use Rattle.hal_outside.specs.DiskTold.{DiskTold}
use Rattle.name_values.specs.Values.{World}
use Rattle.node_files.specs.declared.files.FileRef.{FileRef}
use Rattle.node_names.specs.declared.name.Name.{Name}
use Rattle.plain_job.proofs.Lists.{all_both}
use Rattle.replica_table.specs.Copies.{held, holders, is_name, up_holders}
use Rattle.replica_table.specs.Order.{AreInOrder}
use Rattle.replica_table.specs.Sets.{Ascend}
use Rattle.run_model.proofs.Bare.{bare_but_file, bare_up}
use Rattle.run_model.specs.Advance.{part_tries}
use Rattle.run_model.specs.Lists.{number_of}
use Rattle.run_model.specs.Plans as why
use Rattle.run_model.specs.Plans.{Plan, gives, refuses}
use Rattle.run_model.specs.Reading.{Tried, Try, after_read, cache_of_block, is_struck, other_tries, own_try, read_first, strike, tries_for, try_at, unless_last}
use Rattle.run_model.specs.State.{Copy, PlainCluster, bare, holds}
use Rattle.node_names.specs.declared.name.Name.TheVariants.{Blk, Spill, Out, Ric, Mic, Roc}
use Rattle.valid_copies.proofs.Coming.{added_more, nothing_added, still_told}
use Rattle.valid_copies.proofs.Digests.{held_left}
use Rattle.valid_copies.proofs.Following.{leads_more}
use Rattle.valid_copies.specs.Calls.{Added, Begun, Leads, made_of}
use Rattle.valid_copies.specs.Files.{IsUpFile, try_of}
use Rattle.valid_copies.specs.Stands.{Stands}
use Rattle.copy_reads.specs.Books.{Counted, IsOf, struck_in, with_books}
use Rattle.copy_reads.specs.Faults.{AtMisses}
use Rattle.copy_reads.specs.Needs.{FewerCopies, IsFileFor, IsLastRead, IsMissed, TriesStopped, OfTries, tried_by}
use Rattle.copy_reads.specs.Tried.{AskedAtMost, MissedAs, ReadAs, TriedInVain, ask_for}
use Rattle.copy_reads.specs.declared.books.Books.{Books}
use Rattle.copy_reads.specs.declared.fault.ReadFault.{ReadFault}
use Rattle.copy_reads.specs.declared.fault.ReadFault.TheVariants.{Device, Misses, Memory}
use Rattle.copy_reads.specs.Readers.{tries_by}
use Rattle.copy_reads.specs.declared.reader.Reader.{Reader}
use Rattle.copy_reads.specs.declared.reader.Reader.TheVariants.{Attempt, End}
use Rattle.std.specs.Prelude.{IfNone, IfSome, option_map}
use Rattle.copy_reads.proofs.Holders.{holders_ascend}
use Rattle.copy_reads.proofs.StruckTries.{part_tries_go_on, tries_go_on}

-- which files are tried from a cluster
abbrev pub Tries : Type 0
Tries = PlainCluster → List Try

-- those behind the first are tried once the first is struck, where the copies are in order
abbrev pub GoesOn : Tries → Type 0
GoesOn tries = (books : Books) (c : PlainCluster) (it : Try) → AreInOrder books.table.nodes books.table.copies → slice_get (tries (with_books books c)) 0 ≡ Some it → tries (with_books books c) ≡ it ∷ tries (strike it (with_books books c))

-- the plan to try them
abbrev pub try_plan : Tries → PlainCluster → Plan Tried
try_plan tries c = read_first (tries c) c

-- what is tried for a need of an attempt on a node
pub need_goes_on : (own : ℕ) (name : Name) → GoesOn (λ c. tries_for c own name)
need_goes_on own name books c it order first =
    tries_go_on (with_books books c) own name books.table.nodes it (subst (Ascend 0 books.table.nodes) (sym (bare_up name c.up books.table.copies)) (holders_ascend books.table.nodes name c.up books.table.copies order)) first

-- what is tried for a part
pub part_goes_on : (name : Name) → GoesOn (λ c. part_tries c name)
part_goes_on name books c it order first =
    part_tries_go_on (with_books books c) name books.table.nodes it (subst (Ascend 0 books.table.nodes) (sym (bare_up name c.up books.table.copies)) (holders_ascend books.table.nodes name c.up books.table.copies order)) first

-- whoever reads
pub reader_goes_on : (reader : Reader) (name : Name) → GoesOn (tries_by reader name)
reader_goes_on (Attempt node part) name = need_goes_on node name
reader_goes_on End name = part_goes_on name

-- the first up holder is tried first for a part
pub first_part : (books : Books) (c : PlainCluster) (name : Name) (file : Option FileRef) → IsOf books c → IfNone file (holders name books.table ≡ []) → IfSome file (IsUpFile books.table name) → slice_get (part_tries c name) 0 ≡ option_map try_of file
first_part books c name file of none some =
    let nodes : up_holders name c.up c.copies ≡ holders name books.table = ap (λ copies. up_holders name c.up copies) of.copies ∙ ap (λ up. up_holders name up (bare books.table.copies)) of.up ∙ bare_up name books.table.up books.table.copies in
    ap (λ ns. slice_get (map (try_at name) ns) 0) nodes ∙ by_file file none some
  where
    by_file : (file : Option FileRef) → IfNone file (holders name books.table ≡ []) → IfSome file (IsUpFile books.table name) → slice_get (map (try_at name) (holders name books.table)) 0 ≡ option_map try_of file
    by_file None none some = ap (λ ns. slice_get (map (try_at name) ns) 0) none
    by_file (Some it) none some = mapped (holders name books.table) some.lowest ∙ ap (λ b. Some (try_at b it.node)) (sym some.named)
      where
        mapped : (ns : List ℕ) → slice_get ns 0 ≡ Some it.node → slice_get (map (try_at name) ns) 0 ≡ Some (try_at name it.node)
        mapped [] e = cc
        mapped (n ∷ ns) e = cc

-- a file that is tried for a need is of its name, or of the cache that stands for it
own_named : (copies : List Copy) (own : ℕ) (b : Name) (more : List Try) (t : Try) (P : Name → Type 0) → P b → (slice_get more 0 ≡ Some t → P t.name) → slice_get (own_try copies own b ++ more) 0 ≡ Some t → P t.name
own_named copies own b more t P p later = elim (holds copies own b) as (λ v. slice_get (cond v (try_at b own ∷ []) [] ++ more) 0 ≡ Some t → P t.name) [
  | true ↦ λ e. subst (λ (a : Try). P a.name) (same e) p
  | false ↦ later
]
  where
    same : Some (try_at b own) ≡ Some t → try_at b own ≡ t
    same e = cc

others_named : (name : Name) (nodes : List ℕ) (t : Try) → slice_get (map (try_at name) nodes) 0 ≡ Some t → IsFileFor name t.name
others_named name [] t e = cc
others_named name (n ∷ nodes) t e = inl (same e)
  where
    same : Some (try_at name n) ≡ Some t → t.name ≡ name
    same e = cc

pub tried_named : (reader : Reader) (name : Name) (c : PlainCluster) (t : Try) → slice_get (tries_by reader name c) 0 ≡ Some t → IsFileFor name t.name
tried_named End name c t e = others_named name (up_holders name c.up c.copies) t e
tried_named (Attempt own part) name c t e =
    let others = other_tries c own name in
    own_named c.copies own name (flat_map (own_try c.copies own) (cache_of_block name) ++ others) t (IsFileFor name) (inl refl)
    (λ later. by_cache (cache_of_block name) refl later)
    (ap (λ ts. slice_get ts 0) (sym (append_assoc (own_try c.copies own name) (flat_map (own_try c.copies own) (cache_of_block name)) others)) ∙ e)
  where
    by_cache : (cache : List Name) → cache_of_block name ≡ cache → slice_get (flat_map (own_try c.copies own) cache ++ other_tries c own name) 0 ≡ Some t → IsFileFor name t.name
    by_cache [] is later = others_named name (filter (λ node. not (node == own)) (up_holders name c.up c.copies)) t later
    by_cache (b ∷ []) is later =
        own_named c.copies own b (other_tries c own name) t (IsFileFor name) (inr is) (λ more. others_named name (filter (λ node. not (node == own)) (up_holders name c.up c.copies)) t more)
        (ap (λ ts. slice_get (ts ++ other_tries c own name) 0) (sym (append-nil (own_try c.copies own b))) ∙ later)
    by_cache (b ∷ d ∷ cache) is later = absurd (one name is)
      where
        one : (k : Name) → cache_of_block k ≡ b ∷ d ∷ cache → ⊥
        one (Blk _ _) e = cc
        one (Spill _ _ _ _) e = cc
        one (Out _ _ _) e = cc
        one (Ric _ _ _) e = cc
        one (Mic _ _) e = cc
        one (Roc _ _) e = cc

-- a cluster that has these books
abbrev pub some_cluster : Books → PlainCluster
some_cluster books = record { round = 0; up = books.table.up; marked = []; copies = bare books.table.copies; running = []; known = []; failures = []; events = []; journal = books.journal }

-- the tries before now were missed, and nothing else was done
pub record TriesSoFar (tries : Tries) (old now : Books) (before told : Option DiskTold) : Type 0 where
  pub missed : List disk.Call
  pub added : Added before missed told
  pub all_missed : AllByRecursion IsMissed missed
  pub leads : (c : PlainCluster) → IsOf old c → Leads (try_plan tries c) missed (try_plan tries (with_books now c))
  pub counted : Counted now

-- the cluster that has these books is the same with them
pub itself : (books : Books) (c : PlainCluster) → IsOf books c → with_books books c ≡ c
itself books c of = ap (λ copies. record c { copies = copies; journal = books.journal }) (sym of.copies) ∙ ap (λ journal. record c { journal = journal }) (sym of.journal)

pub tries_none : (tries : Tries) (books : Books) (told : Option DiskTold) → Counted books → TriesSoFar tries books books told told
tries_none tries books told counted = record {
  missed = [];
  added = nothing_added told;
  all_missed = tt;
  leads = λ c of. ap (try_plan tries) (sym (itself books c of));
  counted = counted;
}

-- once the copy is struck, the machine's cluster has the books
struck_is : (file : FileRef) (books : Books) (c : PlainCluster) → strike (try_of file) (with_books books c) ≡ with_books (struck_in file books) c
struck_is file books c = ap (λ copies. record (with_books (struck_in file books) c) { copies = copies }) (sym (bare_but_file file.name file.node books.table.copies))

-- the cluster has these books
pub seen_in : (books : Books) (c : PlainCluster) → c.up ≡ books.table.up → IsOf books (with_books books c)
seen_in books c up = record { copies = refl; up = up; journal = refl }

module _ (tries : Tries) (law : GoesOn tries) (now : Books) (order : AreInOrder now.table.nodes now.table.copies) (c : PlainCluster) (file : FileRef) (first : slice_get (tries (with_books now c)) 0 ≡ Some (try_of file)) where
  go_on : tries (with_books now c) ≡ try_of file ∷ tries (strike (try_of file) (with_books now c))
  go_on = law now c (try_of file) order first

  plan_is : try_plan tries (with_books now c) ≡ read_first (try_of file ∷ tries (strike (try_of file) (with_books now c))) (with_books now c)
  plan_is = ap (λ its. read_first its (with_books now c)) go_on

  -- what is left of the plan after this answer
  abbrev after : Bool → Plan Tried
  after missed = after_read (read_first (tries (strike (try_of file) (with_books now c)))) (try_of file) (with_books now c) missed

  one_leads : (answer : disk.Answer) (rest : Plan Tried) → after (made_of (ask_for file answer)).missed ≡ rest → Leads (try_plan tries (with_books now c)) (ask_for file answer ∷ []) rest
  one_leads answer rest e = subst (λ plan. Leads plan (ask_for file answer ∷ []) rest) (sym plan_is) (refl, e)

  -- a miss, of which there are few still
  pub miss_leads : (answer : disk.Answer) → (made_of (ask_for file answer)).missed ≡ true → Counted (struck_in file now) → Leads (try_plan tries (with_books now c)) (ask_for file answer ∷ []) (try_plan tries (with_books (struck_in file now) c))
  miss_leads answer missed counted =
      one_leads answer (try_plan tries (with_books (struck_in file now) c))
      (ap after missed
      ∙ ap (unless_last (read_first (tries (strike (try_of file) (with_books now c)))) (strike (try_of file) (with_books now c))) (few (number_of is_struck (struck_in file now).journal) counted.told)
      ∙ ap (try_plan tries) (struck_is file now c))
    where
      few : (n : ℕ) → (struck_in file now).misses ≡ n → nat_le 1000 n ≡ false
      few n e = below n (subst (λ m. m < 1000) e counted.few)
        where
          below : (n : ℕ) → n < 1000 → nat_le 1000 n ≡ false
          below n l = grind (arith, nat_tests)

  -- the miss that ends the run
  pub last_leads : (answer : disk.Answer) → (made_of (ask_for file answer)).missed ≡ true → 1000 ≤ number_of is_struck (struck_in file now).journal → Leads (try_plan tries (with_books now c)) (ask_for file answer ∷ []) (refuses (with_books (struck_in file now) c) why.Misses)
  last_leads answer missed many =
      one_leads answer (refuses (with_books (struck_in file now) c) why.Misses)
      (ap after missed
      ∙ ap (unless_last (read_first (tries (strike (try_of file) (with_books now c)))) (strike (try_of file) (with_books now c))) (full (number_of is_struck (struck_in file now).journal) many)
      ∙ ap (λ d. refuses d why.Misses) (struck_is file now c))
    where
      full : (n : ℕ) → 1000 ≤ n → nat_le 1000 n ≡ true
      full n l = grind (arith, nat_tests)

  -- the file is read
  pub read_leads : (bytes : List ℕ) → Leads (try_plan tries (with_books now c)) (ask_for file (disk.Same bytes) ∷ []) (gives (tried_by now c (Some file)))
  read_leads bytes = one_leads (disk.Same bytes) (gives (tried_by now c (Some file))) refl

  -- whatever is answered
  pub any_leads : (answer : disk.Answer) → (rest : Plan Tried) × Leads (try_plan tries (with_books now c)) (ask_for file answer ∷ []) rest
  any_leads answer = (after (made_of (ask_for file answer)).missed, one_leads answer (after (made_of (ask_for file answer)).missed) refl)

-- nothing is left to try
nothing_left : (tries : Tries) (c : PlainCluster) → slice_get (tries c) 0 ≡ None → try_plan tries c ≡ gives (record { cluster = c; answered = None })
nothing_left tries c e = ap (λ its. read_first its c) (none (tries c) e)
  where
    none : (its : List Try) → slice_get its 0 ≡ None → its ≡ []
    none [] e = refl
    none (t ∷ its) e = cc

-- a copy that is struck leaves the others
pub struck_fewer : (file : FileRef) (old new : Books) → new ≡ struck_in file old → FewerCopies old new
struck_fewer file old new struck b n digest h = held_left (λ k i. not (is_name file.name k && file.node == i)) b n old.table.copies digest (subst (λ (books : Books). held b n books.table.copies ≡ Some digest) struck h)

-- ---- the loop

module _ (tries : Tries) (old now : Books) (before told : Option DiskTold) (up : now.table.up ≡ old.table.up) (s : TriesSoFar tries old now before told) where
  up_now : (c : PlainCluster) → IsOf old c → c.up ≡ now.table.up
  up_now c of = of.up ∙ sym up

  -- nothing is left to try
  pub none_leads : ((c : PlainCluster) → IsOf now c → slice_get (tries c) 0 ≡ None) → OfTries (λ c plan. Leads plan s.missed (gives (tried_by now c None))) old tries
  none_leads none = λ c of. subst (Leads (try_plan tries c) s.missed) (nothing_left tries (with_books now c) (none (with_books now c) (seen_in now c (up_now c of)))) (s.leads c of)

  module _ (law : GoesOn tries) (order : AreInOrder now.table.nodes now.table.copies) (file : FileRef) (first : (c : PlainCluster) → IsOf now c → slice_get (tries c) 0 ≡ Some (try_of file)) (after : Option DiskTold) where
    first_in : (c : PlainCluster) → IsOf old c → slice_get (tries (with_books now c)) 0 ≡ Some (try_of file)
    first_in c of = first (with_books now c) (seen_in now c (up_now c of))

    -- one call more
    call_leads : (c : PlainCluster) → IsOf old c → (answer : disk.Answer) (rest : Plan Tried) → Leads (try_plan tries (with_books now c)) (ask_for file answer ∷ []) rest → Leads (try_plan tries c) (s.missed ++ ask_for file answer ∷ []) rest
    call_leads c of answer rest l = leads_more (try_plan tries c) (try_plan tries (with_books now c)) rest s.missed (ask_for file answer ∷ []) (s.leads c of) l

    pub tries_more : (new : Books) → MissedAs file now new told after → Counted new → TriesSoFar tries old new before after
    tries_more new m counted = record {
      missed = s.missed ++ ask_for file m.answer ∷ [];
      added = added_more before told after s.missed (ask_for file m.answer ∷ []) s.added m.added;
      all_missed = all_both IsMissed s.missed (ask_for file m.answer ∷ []) s.all_missed (m.missed, tt);
      leads = λ c of. call_leads c of m.answer (try_plan tries (with_books new c))
          (subst (λ books. Leads (try_plan tries (with_books now c)) (ask_for file m.answer ∷ []) (try_plan tries (with_books books c))) (sym m.struck)
          (miss_leads tries law now order c file (first_in c of) m.answer m.missed (subst Counted m.struck counted)));
      counted = counted;
    }

    module _ (shape : Shape) (part : ℕ) (shows shows' : Type 0) (rows : List Record) (new : Books) (r : ReadAs shape part shows' file rows now new told after) where
      abbrev pub read_calls : List disk.Call
      read_calls = s.missed ++ ask_for file (disk.Same r.bytes) ∷ []

      pub read_added : Added before read_calls after
      read_added = added_more before told after s.missed (ask_for file (disk.Same r.bytes) ∷ []) s.added r.added

      pub some_leads : OfTries (λ c plan. Leads plan read_calls (gives (tried_by new c (Some file)))) old tries
      some_leads = λ c of. subst (λ (books : Books). Leads (try_plan tries c) read_calls (gives (tried_by books c (Some file)))) (sym r.same)
          (call_leads c of (disk.Same r.bytes) (gives (tried_by now c (Some file))) (read_leads tries law now order c file (first_in c of) r.bytes))

      pub last_read : (name : Name) → IsFileFor name file.name → (shows → shows') → ((w : World) → Stands w old.table.copies before → Stands w now.table.copies told) → IsLastRead shape part shows name old before read_calls (record { file = file; rows = rows })
      last_read name named shown stands = record {
        missed = s.missed;
        all_missed = s.all_missed;
        bytes = r.bytes;
        last = refl;
        named = named;
        stands = r.stands;
        text = λ sh t w st. r.text (shown sh) (still_told before told s.missed s.added t) w (stands w st);
      }

    begins : AskedAtMost file told after → OfTries (λ c plan. Begun plan before after) old tries
    begins a = λ c of. elim a.asked [
      | inl none ↦ record {
        calls = s.missed ++ [];
        rest = try_plan tries (with_books now c);
        added = added_more before told after s.missed [] s.added none;
        leads = leads_more (try_plan tries c) (try_plan tries (with_books now c)) (try_plan tries (with_books now c)) s.missed [] (s.leads c of) refl;
      }
      | inr one ↦
          let any = any_leads tries law now order c file (first_in c of) a.answer in
          record {
            calls = s.missed ++ ask_for file a.answer ∷ [];
            rest = any.0;
            added = added_more before told after s.missed (ask_for file a.answer ∷ []) s.added one;
            leads = call_leads c of a.answer any.0 any.1;
          }
    ]

    pub tries_stopped : (new : Books) (fault : ReadFault) → TriedInVain file now new told after fault → AtMisses fault (1000 ≤ number_of is_struck new.journal) → TriesStopped old new tries before after fault
    tries_stopped new (Device device) t full = begins t
    tries_stopped new Misses t full = λ c of. record {
      calls = s.missed ++ ask_for file t.answer ∷ [];
      added = added_more before told after s.missed (ask_for file t.answer ∷ []) s.added t.added;
      leads = subst (λ (books : Books). Leads (try_plan tries c) (s.missed ++ ask_for file t.answer ∷ []) (refuses (with_books books c) why.Misses)) (sym t.struck)
          (call_leads c of t.answer (refuses (with_books (struck_in file now) c) why.Misses)
          (last_leads tries law now order c file (first_in c of) t.answer t.missed (subst (λ (books : Books). 1000 ≤ number_of is_struck books.journal) t.struck full)));
    }
    tries_stopped new Memory t full = begins t
