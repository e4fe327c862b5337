-- Calls on disks, as the cluster's plans have them.
use Rattle.std.specs.Prelude.{◌≡◌, ◌⊎◌, Bool, true, false, List, [], ◌∷◌, ◌++◌, Option, map}
use Rattle.std.specs.List.{AllByRecursion}
use Rattle.std.specs.Option.{option_map}
use Rattle.hal_outside.specs.DiskCalls as disk
use Rattle.hal_outside.specs.DiskCalls.{Answer, Same, Gone, Other}
use Rattle.hal_outside.specs.DiskTold.{DiskTold}
use Rattle.hal_outside.specs.Told.{OnTold}
use Rattle.run_model.specs.Plans as plan
use Rattle.run_model.specs.Plans.{Leaves, Made, Plan}

-- the answer is not the file
abbrev pub is_miss : Answer → Bool
is_miss (Same bytes) = false
is_miss Gone = true
is_miss Other = true

-- a call, as a plan has it
abbrev pub made_of : disk.Call → Made
made_of (disk.Write node name bytes) = record { call = plan.Write node name; missed = false }
made_of (disk.Read node name want answer) = record { call = plan.Read node name; missed = is_miss answer }
made_of (disk.Remove node name) = record { call = plan.Remove node name; missed = false }
made_of (disk.Wipe node) = record { call = plan.Wipe node; missed = false }

-- these calls were added, where the disks tell
abbrev pub Added : Option DiskTold → List disk.Call → Option DiskTold → Type 0
Added before calls after = option_map (λ (told : DiskTold). told.calls) after ≡ option_map (λ (told : DiskTold). told.calls ++ calls) before

-- these calls were added, or all but the last of them, which is this
abbrev pub AddedAtMost : Option DiskTold → List disk.Call → disk.Call → Option DiskTold → Type 0
AddedAtMost before calls last after = Added before calls after ⊎ Added before (calls ++ last ∷ []) after

-- after these calls, this is what is left of the plan
abbrev pub Leads : {A : Type 0} → Plan A → List disk.Call → Plan A → Type 0
Leads plan calls rest = Leaves plan (map made_of calls) rest

-- none of these calls missed
abbrev pub AreAnswered : List disk.Call → Type 0
AreAnswered calls = AllByRecursion (λ call. (made_of call).missed ≡ false) calls

-- calls were added, none of which missed, and they led from a plan to what is left of it
pub record Follows {A : Type 0} (plan : Plan A) (before after : Option DiskTold) (rest : Plan A) : Type 0 where
  pub calls : List disk.Call
  pub answered : AreAnswered calls
  pub added : Added before calls after
  pub leads : Leads plan calls rest

-- calls were added that are the first of a plan, whatever is left of it
pub record Begun {A : Type 0} (plan : Plan A) (before after : Option DiskTold) : Type 0 where
  pub calls : List disk.Call
  pub rest : Plan A
  pub added : Added before calls after
  pub leads : Leads plan calls rest

-- calls were added that are the first of a plan, and the last of them missed, and no other
pub record MissedIn {A : Type 0} (plan : Plan A) (before after : Option DiskTold) : Type 0 where
  pub done : List disk.Call
  pub last : disk.Call
  pub rest : Plan A
  pub answered : AreAnswered done
  pub missed : (made_of last).missed ≡ true
  pub added : Added before (done ++ last ∷ []) after
  pub leads : Leads plan (done ++ last ∷ []) rest

-- calls were added, each of them such
pub record AddedSuch (Such : disk.Call → Type 0) (old new : DiskTold) : Type 0 where
  pub calls : List disk.Call
  pub added : new.calls ≡ old.calls ++ calls
  pub each : AllByRecursion Such calls

-- where the disks tell, each call that was added is such
abbrev pub CallsHave : (disk.Call → Type 0) → Option DiskTold → Option DiskTold → Type 0
CallsHave Such before after = OnTold (AddedSuch Such) before after

-- of no file it changed what was put
abbrev pub PutStays : Option DiskTold → Option DiskTold → Type 0
PutStays before after = OnTold (λ old new. new.put ≡ old.put) before after
