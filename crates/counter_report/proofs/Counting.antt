-- The counts of a journal behind one more entry.
use Rattle.std.proofs.Common.{◌≡◌, ℕ, ◌+◌, ◌<◌, min, length, take, get_or, List, [], ◌∷◌, ◌++◌, Option, None, Some, refl, sym, ap, ◌∙◌, arith}
use Rattle.std.specs.List.{sum_by}
use Rattle.std.specs.Option.{option_or}
use Rattle.std.proofs.lemmas.List.{take_more}
use Rattle.std.proofs.lemmas.List.Sums.{sum_by-append}
use Rattle.node_names.specs.declared.task.Task.TheVariants.{Map, Reduce, Test}
use Rattle.counter_report.specs.declared.journal.EndWord.TheVariants as word
use Rattle.counter_report.specs.declared.journal.Entry.{Entry}
use Rattle.counter_report.specs.declared.journal.Entry.TheVariants.{Round, Start, Commit, Starve, Fail, Kill, Dropped, Struck, Lose, Back, Wipe, Busy, Idle, Skip, End}
use Rattle.counter_report.specs.declared.report.Report.{Report}
use Rattle.counter_report.specs.Tallies.{begun, capped, end_by, last_told, rounds_by, tally, told_end}
use Rattle.counter_report.specs.steps.Counting.{counted, rounds_behind}

-- a sum with one more item
more : (f : Entry → ℕ) (journal : List Entry) (entry : Entry) → capped (sum_by f (journal ++ entry ∷ [])) ≡ capped (capped (sum_by f journal) + f entry)
more f journal entry = rw (sum_by-append f journal (entry ∷ [])) (omega arith)

-- what is told last, with one more item
told : {X : Type 0} (t : Entry → Option X) (journal : List Entry) (entry : Entry) → last_told t (journal ++ entry ∷ []) ≡ option_or (t entry) (last_told t journal)
told t [] entry = elim (t entry) as (λ o. option_or None o ≡ option_or o None) [ None ↦ refl | Some x ↦ refl ]
told t (it ∷ journal) entry =
    rw (told t journal entry)
    (elim (t entry) as (λ o. option_or (option_or o (last_told t journal)) (t it) ≡ option_or o (option_or (last_told t journal) (t it))) [ None ↦ refl | Some x ↦ refl ])

-- a sum to which nothing is added
settled : (n : ℕ) → min (min n 18446744073709551615 + 0) 18446744073709551615 ≡ min n 18446744073709551615
settled n = omega arith

-- a round that begins counts where no end was told
begins : (journal : List Entry) (round : ℕ) → rounds_by (last_told told_end journal) (option_or (Some round) (last_told begun journal)) ≡ rounds_behind (tally journal).end (tally journal).rounds round
begins journal round =
    elim (last_told told_end journal) as (λ o. rounds_by o (Some round) ≡ rounds_behind (end_by o) (rounds_by o (last_told begun journal)) round) [
      | None ↦ refl
      | Some (word.Fixpoint, last) ↦ refl
      | Some (word.Close, last) ↦ refl
      | Some (word.Limit, last) ↦ refl
    ]

-- one more entry is counted as it is
pub counted_one : (journal : List Entry) (entry : Entry) → tally (journal ++ entry ∷ []) ≡ counted (tally journal) entry
counted_one journal (Round round) = simp (told, more, settled, begins)
counted_one journal (Start task node) = simp (told, more, settled)
counted_one journal (Commit (Map i j s q) node local remote caches) = simp (told, more, settled)
counted_one journal (Commit (Reduce i j p) node local remote caches) = simp (told, more, settled)
counted_one journal (Commit (Test i p) node local remote caches) = simp (told, more, settled)
counted_one journal (Starve task node) = simp (told, more, settled)
counted_one journal (Fail task node count) = simp (told, more, settled)
counted_one journal (Kill task node) = simp (told, more, settled)
counted_one journal (Dropped task node) = simp (told, more, settled)
counted_one journal (Struck name node) = simp (told, more, settled)
counted_one journal (Lose node) = simp (told, more, settled)
counted_one journal (Back node) = simp (told, more, settled)
counted_one journal (Wipe node) = simp (told, more, settled)
counted_one journal (Busy node) = simp (told, more, settled)
counted_one journal (Idle node) = simp (told, more, settled)
counted_one journal (Skip word number) = simp (told, more, settled)
counted_one journal (End word round) = simp (told, more, settled)

-- a report of the first entries that counts the next one
pub counted_next : (old new : Report) (journal : List Entry) (i : ℕ) (d : Entry) → i < length journal → old ≡ tally (take i journal) → new ≡ counted old (get_or journal i d) → new ≡ tally (take (i + 1) journal)
counted_next old new journal i d l o n =
    n ∙ ap (λ (it : Report). counted it (get_or journal i d)) o ∙ sym (counted_one (take i journal) (get_or journal i d)) ∙ ap tally (sym (take_more journal i d l))
