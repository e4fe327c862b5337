-- What the entries of a log tell of a file, the newest first.
use Rattle.std.proofs.Common.{◌≡◌, ℕ, suc, ◌+◌, ◌<◌, ◌≤◌, length, get_or, List, ◌∷◌, None, sym, ap, ◌∙◌, drop, arith}
use Rattle.std.specs.Ordering.{nat_cmp}
use Rattle.std.specs.Cmp.Lexicographic.{slice_cmp}
use Rattle.std.specs.FinMap as map
use Rattle.std.proofs.lemmas.List.{drop_all}
use Rattle.std.proofs.Math.Seq.{drop-cons}
use Rattle.node_names.specs.declared.name.Name.{Name}
use Rattle.hal_outside.specs.declared.log.Entry.{Entry}
use Rattle.hal_outside.specs.DiskFiles.{file_at, file_key}
use Rattle.hal_outside.specs.DiskSteps.{now_after}
use Rattle.hal_outside.specs.steps.DiskLogs.{call_of, found_after, steps_of}
use Rattle.hal_outside.proofs.DiskMaps.{get_after}

-- the entries behind the i-th
abbrev pub behind : List Entry → ℕ → List Entry
behind entries i = drop (i + 1) entries

from_here : (entries : List Entry) (i : ℕ) (entry : Entry) → i < length entries → entry ≡ get_or entries i entry → drop i entries ≡ entry ∷ behind entries i
from_here entries i entry l e =
    let next : suc i ≡ i + 1 = omega arith in
    drop-cons entries i entry l ∙ ap (λ first. first ∷ drop (suc i) entries) (sym e) ∙ ap (λ j. entry ∷ drop j entries) next

-- the bytes of a file, by the i-th entry and those behind it
pub at_entry : (entries : List Entry) (i : ℕ) (entry : Entry) (node : ℕ) (name : Name) → i < length entries → entry ≡ get_or entries i entry → file_at (now_after (steps_of (drop i entries))) node name ≡ found_after (call_of (now_after (steps_of (behind entries i))) entry.deed) (file_key node name) (file_at (now_after (steps_of (behind entries i))) node name)
at_entry entries i entry node name l e =
    ap (λ rest. file_at (now_after (steps_of rest)) node name) (from_here entries i entry l e)
    ∙ get_after (call_of (now_after (steps_of (behind entries i))) entry.deed) (now_after (steps_of (behind entries i))) (file_key node name)

-- no entry is left
pub at_end : (entries : List Entry) (i : ℕ) (node : ℕ) (name : Name) → length entries ≤ i → None ≡ file_at (now_after (steps_of (drop i entries))) node name
at_end entries i node name l = sym (ap (λ rest. file_at (now_after (steps_of rest)) node name) (drop_all i entries l) ∙ map.get-empty (slice_cmp nat_cmp) (file_key node name))
