-- Calls that are added one after another, with what holds of each of them.
use Rattle.std.proofs.Common.{◌≡◌, List, [], ◌∷◌, ◌++◌, Option, None, Some, refl, sym, ap, ◌∙◌, append_assoc, append-nil}
use Rattle.std.specs.List.{AllByRecursion}
use Rattle.plain_job.proofs.Lists.{all_both, all_weaker}
use Rattle.hal_outside.specs.DiskCalls as disk
use Rattle.hal_outside.specs.DiskTold.{DiskTold}
use Rattle.hal_outside.specs.Told.{OnTold}
use Rattle.valid_copies.specs.Calls.{Added, CallsHave}

pub all_front : {A : Type 0} (P : A → Type 0) (xs ys : List A) → AllByRecursion P (xs ++ ys) → AllByRecursion P xs
all_front P [] ys h = tt
all_front P (x ∷ xs) ys h = (h.0, all_front P xs ys h.1)

pub all_back : {A : Type 0} (P : A → Type 0) (xs ys : List A) → AllByRecursion P (xs ++ ys) → AllByRecursion P ys
all_back P [] ys h = h
all_back P (x ∷ xs) ys h = all_back P xs ys h.1

-- where the disks tell, their calls are the old ones and then these
pub told_added : (before after : Option DiskTold) (calls : List disk.Call) → Added before calls after → OnTold (λ old new. new.calls ≡ old.calls ++ calls) before after
told_added None None calls a = refl
told_added None (Some u) calls a = cc
told_added (Some t) None calls a = cc
told_added (Some t) (Some u) calls a = same a
  where
    same : Some u.calls ≡ Some (t.calls ++ calls) → u.calls ≡ t.calls ++ calls
    same e = cc

pub such_none : (Such : disk.Call → Type 0) (told : Option DiskTold) → CallsHave Such told told
such_none Such None = refl
such_none Such (Some t) = record { calls = []; added = sym (append-nil t.calls); each = tt }

pub such_more : (Such : disk.Call → Type 0) (before between after : Option DiskTold) → CallsHave Such before between → CallsHave Such between after → CallsHave Such before after
such_more Such None None after a b = b
such_more Such None (Some m) after a b = cc
such_more Such (Some t) None after a b = absurd a
such_more Such (Some t) (Some m) None a b = absurd b
such_more Such (Some t) (Some m) (Some u) a b = record {
  calls = a.calls ++ b.calls;
  added = b.added ∙ ap (λ cs. cs ++ b.calls) a.added ∙ append_assoc t.calls a.calls b.calls;
  each = all_both Such a.calls b.calls a.each b.each;
}

-- where it is known which calls were added
pub such_added : (Such : disk.Call → Type 0) (before after : Option DiskTold) (calls : List disk.Call) → Added before calls after → AllByRecursion Such calls → CallsHave Such before after
such_added Such None after calls a each = told_added None after calls a
such_added Such (Some t) None calls a each = absurd (told_added (Some t) None calls a)
such_added Such (Some t) (Some u) calls a each = record { calls = calls; added = told_added (Some t) (Some u) calls a; each = each }

pub such_weaker : (Such Other : disk.Call → Type 0) (before after : Option DiskTold) → ((call : disk.Call) → Such call → Other call) → CallsHave Such before after → CallsHave Other before after
such_weaker Such Other None after f a = a
such_weaker Such Other (Some t) None f a = absurd a
such_weaker Such Other (Some t) (Some u) f a = record { calls = a.calls; added = a.added; each = all_weaker Such Other a.calls f a.each }
