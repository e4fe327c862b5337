-- Plans that calls follow, one after another.
use Rattle.std.proofs.Common.{◌≡◌, false, List, [], ◌∷◌, ◌++◌, Option, map, refl, sym, subst}
use Rattle.std.proofs.lemmas.List.{append_assoc, map-append}
use Rattle.hal_outside.specs.DiskCalls as disk
use Rattle.hal_outside.specs.DiskTold.{DiskTold}
use Rattle.run_model.specs.Plans.{Leaves, Plan, gives, ◌>>=◌}
use Rattle.run_model.proofs.PlanSteps.{leaves_more, leaves_then}
use Rattle.valid_copies.specs.Calls.{Added, AreAnswered, Begun, Follows, Leads, MissedIn, made_of}
use Rattle.plain_job.proofs.Lists.{all_both}
use Rattle.valid_copies.proofs.Coming.{added_more, nothing_added}

-- the calls of one part of a plan, and then those of what it left
pub leads_more : {A : Type 0} (plan middle rest : Plan A) (calls more : List disk.Call) → Leads plan calls middle → Leads middle more rest → Leads plan (calls ++ more) rest
leads_more plan middle rest calls more a b = subst (λ made. Leaves plan made rest) (sym (map-append made_of calls more)) (leaves_more plan middle rest (map made_of calls) (map made_of more) a b)

pub leads_then : {A B : Type 0} (plan : Plan A) (x : A) (f : A → Plan B) (rest : Plan B) (calls more : List disk.Call) → Leads plan calls (gives x) → Leads (f x) more rest → Leads (plan >>= f) (calls ++ more) rest
leads_then plan x f rest calls more a b = leads_more (plan >>= f) (f x) rest calls more (leaves_then plan (gives x) f (map made_of calls) a) b

pub answered_both : (calls more : List disk.Call) → AreAnswered calls → AreAnswered more → AreAnswered (calls ++ more)
answered_both calls more a b = all_both (λ call. (made_of call).missed ≡ false) calls more a b

-- ---- no call

pub follows_none : {A : Type 0} (plan : Plan A) (told : Option DiskTold) → Follows plan told told plan
follows_none plan told = record { calls = []; answered = tt; added = nothing_added told; leads = refl }

pub begun_none : {A : Type 0} (plan : Plan A) (told : Option DiskTold) → Begun plan told told
begun_none plan told = record { calls = []; rest = plan; added = nothing_added told; leads = refl }

-- ---- a part, and then another

pub follows_more : {A : Type 0} (plan middle rest : Plan A) (before between after : Option DiskTold) → Follows plan before between middle → Follows middle between after rest → Follows plan before after rest
follows_more plan middle rest before between after a b = record {
  calls = a.calls ++ b.calls;
  answered = answered_both a.calls b.calls a.answered b.answered;
  added = added_more before between after a.calls b.calls a.added b.added;
  leads = leads_more plan middle rest a.calls b.calls a.leads b.leads;
}

pub begun_more : {A : Type 0} (plan middle : Plan A) (before between after : Option DiskTold) → Follows plan before between middle → Begun middle between after → Begun plan before after
begun_more plan middle before between after a b = record {
  calls = a.calls ++ b.calls;
  rest = b.rest;
  added = added_more before between after a.calls b.calls a.added b.added;
  leads = leads_more plan middle b.rest a.calls b.calls a.leads b.leads;
}

pub missed_more : {A : Type 0} (plan middle : Plan A) (before between after : Option DiskTold) → Follows plan before between middle → MissedIn middle between after → MissedIn plan before after
missed_more plan middle before between after a b = record {
  done = a.calls ++ b.done;
  last = b.last;
  rest = b.rest;
  answered = answered_both a.calls b.done a.answered b.answered;
  missed = b.missed;
  added = subst (λ calls. Added before calls after) (sym (append_assoc a.calls b.done (b.last ∷ []))) (added_more before between after a.calls (b.done ++ b.last ∷ []) a.added b.added);
  leads = subst (λ calls. Leads plan calls b.rest) (sym (append_assoc a.calls b.done (b.last ∷ []))) (leads_more plan middle b.rest a.calls (b.done ++ b.last ∷ []) a.leads b.leads);
}

-- ---- a plan, and what follows on what it gives

pub follows_bind : {A B : Type 0} (plan rest : Plan A) (f : A → Plan B) (before after : Option DiskTold) → Follows plan before after rest → Follows (plan >>= f) before after (rest >>= f)
follows_bind plan rest f before after a = record { calls = a.calls; answered = a.answered; added = a.added; leads = leaves_then plan rest f (map made_of a.calls) a.leads }

pub follows_then : {A B : Type 0} (plan : Plan A) (x : A) (f : A → Plan B) (rest : Plan B) (before between after : Option DiskTold) → Follows plan before between (gives x) → Follows (f x) between after rest → Follows (plan >>= f) before after rest
follows_then plan x f rest before between after a b = follows_more (plan >>= f) (f x) rest before between after (follows_bind plan (gives x) f before between a) b

pub begun_first : {A B : Type 0} (plan : Plan A) (f : A → Plan B) (before after : Option DiskTold) → Begun plan before after → Begun (plan >>= f) before after
begun_first plan f before after a = record { calls = a.calls; rest = a.rest >>= f; added = a.added; leads = leaves_then plan a.rest f (map made_of a.calls) a.leads }

pub begun_then : {A B : Type 0} (plan : Plan A) (x : A) (f : A → Plan B) (before between after : Option DiskTold) → Follows plan before between (gives x) → Begun (f x) between after → Begun (plan >>= f) before after
begun_then plan x f before between after a b = begun_more (plan >>= f) (f x) before between after (follows_bind plan (gives x) f before between a) b

pub missed_first : {A B : Type 0} (plan : Plan A) (f : A → Plan B) (before after : Option DiskTold) → MissedIn plan before after → MissedIn (plan >>= f) before after
missed_first plan f before after a = record {
  done = a.done;
  last = a.last;
  rest = a.rest >>= f;
  answered = a.answered;
  missed = a.missed;
  added = a.added;
  leads = leaves_then plan a.rest f (map made_of (a.done ++ a.last ∷ [])) a.leads;
}

pub missed_then : {A B : Type 0} (plan : Plan A) (x : A) (f : A → Plan B) (before between after : Option DiskTold) → Follows plan before between (gives x) → MissedIn (f x) between after → MissedIn (plan >>= f) before after
missed_then plan x f before between after a b = missed_more (plan >>= f) (f x) before between after (follows_bind plan (gives x) f before between a) b
