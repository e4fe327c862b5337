-- Kept entries, and what each of them tells of a file.
use Rattle.std.specs.Prelude.{◌≡◌, ◌≢◌, ◌⊎◌, ℕ, if◌then◌else◌, List, [], ◌∷◌, Option, None, Some, unwrap_or}
use Rattle.std.specs.Ordering.{nat_cmp, eq_by_cmp}
use Rattle.std.specs.Cmp.Lexicographic.{slice_cmp}
use Rattle.node_names.specs.declared.name.Name.{Name}
use Rattle.hal_outside.specs.declared.log.Cause.{Cause}
use Rattle.hal_outside.specs.declared.log.Cause.TheVariants as why
use Rattle.hal_outside.specs.declared.log.Answered.{Answered}
use Rattle.hal_outside.specs.declared.log.Answered.TheVariants as answered
use Rattle.hal_outside.specs.declared.log.Deed.{Deed}
use Rattle.hal_outside.specs.declared.log.Deed.TheVariants as deed
use Rattle.hal_outside.specs.declared.log.Entry.{Entry}
use Rattle.hal_outside.specs.declared.log.Sight.{Sight}
use Rattle.hal_outside.specs.declared.log.Sight.TheVariants as sight
use Rattle.hal_outside.specs.DiskFiles.{DiskMap, file_key, file_at, is_on}
use Rattle.hal_outside.specs.DiskCalls.{Answer, Same, Gone, Other, Call, Write, Read, Remove, Wipe}
use Rattle.hal_outside.specs.DiskSteps.{Step, damage, now_after}
use Rattle.sha2.specs.Sha256.{sha256}

-- the answer of a read of this file
abbrev pub answer_kept : Option (List ℕ) → Answered → Answer
answer_kept file answered.Same = Same (unwrap_or file [])
answer_kept file answered.Gone = Gone
answer_kept file answered.Other = Other

-- a deed as a call, where these files lay there before it
abbrev pub call_of : DiskMap → Deed → Call
call_of files (deed.Write node name bytes) = Write node name bytes
call_of files (deed.Read node name want answer) = Read node name want.0 (answer_kept (file_at files node name) answer)
call_of files (deed.Remove node name) = Remove node name
call_of files (deed.Wipe node) = Wipe node

-- the next step after these
abbrev pub step_of : List Step → Cause → Deed → Step
step_of steps cause deed = record { cause = cause; call = call_of (now_after steps) deed }

-- the steps of kept entries
abbrev pub steps_of : List Entry → List Step
steps_of [] = []
steps_of (entry ∷ entries) = step_of (steps_of entries) entry.cause entry.deed ∷ steps_of entries

-- an entry that was there before
abbrev pub settled_entry : Entry → Entry
settled_entry entry = record entry { cause = why.Earlier }

-- a step that was there before
abbrev pub settled : Step → Step
settled step = record { cause = why.Earlier; call = step.call }

-- what lies under a key after a call, where this lay there before it
abbrev pub found_after : Call → List ℕ → Option (List ℕ) → Option (List ℕ)
found_after (Write node name bytes) key before = if eq_by_cmp (slice_cmp nat_cmp) key (file_key node name) then Some bytes else before
found_after (Read node name want answer) key before = before
found_after (Remove node name) key before = if eq_by_cmp (slice_cmp nat_cmp) key (file_key node name) then None else before
found_after (Wipe node) key before = if is_on node key then None else before

-- what one call by itself tells of a file
abbrev pub Tells : Sight → Call → ℕ → Name → Type 0
Tells (sight.Found bytes) call node name = (before : Option (List ℕ)) → found_after call (file_key node name) before ≡ Some bytes.now
Tells sight.Gone call node name = (before : Option (List ℕ)) → found_after call (file_key node name) before ≡ None
Tells sight.Further call node name = (before : Option (List ℕ)) → found_after call (file_key node name) before ≡ before

-- the file has another digest now, or is gone
abbrev pub Spoils : ℕ → Name → List ℕ → List Step → List Step → Type 0
Spoils node name bytes old new = (new ≡ damage (Remove node name) ∷ old) ⊎ ((spoilt : List ℕ) × (sha256 spoilt ≢ sha256 bytes) × (new ≡ damage (Write node name spoilt) ∷ old))

-- a call writes this file
abbrev pub Writes : ℕ → Name → Call → Type 0
Writes node name (Write other other_name bytes) = (node ≡ other) × (name ≡ other_name)
Writes node name (Read other other_name want answer) = ⊥
Writes node name (Remove other other_name) = ⊥
Writes node name (Wipe other) = ⊥

-- a step is a call, and no damage, that writes this file
abbrev pub IsWriteOf : ℕ → Name → Step → Type 0
IsWriteOf node name step = (step.cause ≡ why.Call) × Writes node name step.call

-- one of the steps is such a call
abbrev pub WasWritten : ℕ → Name → List Step → Type 0
WasWritten node name [] = ⊥
WasWritten node name (step ∷ steps) = IsWriteOf node name step ⊎ WasWritten node name steps
