-- What holds however a plan goes, of one plan after another.
use Rattle.std.proofs.Common.{false, List, [], ◌∷◌, sym, subst}
use Rattle.run_model.specs.PlanLaws.{Always}
use Rattle.run_model.specs.Plans.{Call, Leaves, Made, Plan, Refusal, asks, do_all, does, gives, refuses, ◌>>=◌}
use Rattle.run_model.specs.State.{PlainCluster}
use Rattle.run_laws.specs.Ending.{Any}
use Rattle.run_laws.specs.Refusals.{Caused}
use Rattle.run_laws.specs.WithoutLoss.{NoneMissed, Unmissed}

module _ {A B : Type 0} (Q : PlainCluster → Type 0) where
  pub always_then : (P : A → Type 0) (P' : B → Type 0) (plan : Plan A) (f : A → Plan B) → Always P Q plan → ((a : A) → P a → Always P' Q (f a)) → Always P' Q (plan >>= f)
  always_then P P' (gives a) f h k = k a h
  always_then P P' (refuses c why) f h k = h
  always_then P P' (does call plan) f h k = always_then P P' plan f h k
  always_then P P' (asks node name next) f h k = λ missed. always_then P P' (next missed) f (h missed) k

pub always_do : {A : Type 0} (P : A → Type 0) (Q : PlainCluster → Type 0) (calls : List Call) (plan : Plan A) → Always P Q plan → Always P Q (do_all calls plan)
always_do P Q [] plan h = h
always_do P Q (call ∷ calls) plan h = always_do P Q calls plan h

-- what always holds may be weakened
pub always_map : {A : Type 0} (P P' : A → Type 0) (Q Q' : PlainCluster → Type 0) (plan : Plan A) → ((a : A) → P a → P' a) → ((c : PlainCluster) → Q c → Q' c) → Always P Q plan → Always P' Q' plan
always_map P P' Q Q' (gives a) f g h = f a h
always_map P P' Q Q' (refuses c why) f g h = g c h
always_map P P' Q Q' (does call plan) f g h = always_map P P' Q Q' plan f g h
always_map P P' Q Q' (asks node name next) f g h = λ missed. always_map P P' Q Q' (next missed) f g (h missed)

pub always_both : {A : Type 0} (P P' : A → Type 0) (Q Q' : PlainCluster → Type 0) (plan : Plan A) → Always P Q plan → Always P' Q' plan → Always (λ a. P a × P' a) (λ c. Q c × Q' c) plan
always_both P P' Q Q' (gives a) h k = (h, k)
always_both P P' Q Q' (refuses c why) h k = (h, k)
always_both P P' Q Q' (does call plan) h k = always_both P P' Q Q' plan h k
always_both P P' Q Q' (asks node name next) h k = λ missed. always_both P P' Q Q' (next missed) (h missed) (k missed)

pub always_any : {A : Type 0} (P : A → Type 0) (Q : PlainCluster → Type 0) (plan : Plan A) → Always P Q plan → Always P Any plan
always_any P Q (gives a) h = h
always_any P Q (refuses c why) h = tt
always_any P Q (does call plan) h = always_any P Q plan h
always_any P Q (asks node name next) h = λ missed. always_any P Q (next missed) (h missed)

-- ---- what is left of a plan after calls

-- what always holds of a plan holds of what is left of it
pub always_leaves : {A : Type 0} (P : A → Type 0) (Q : PlainCluster → Type 0) (plan rest : Plan A) (made : List Made) → Always P Q plan → Leaves plan made rest → Always P Q rest
always_leaves P Q plan rest [] h e = subst (Always P Q) e h
always_leaves P Q (gives a) rest (m ∷ made) h e = elim e [ ]
always_leaves P Q (refuses c why) rest (m ∷ made) h e = elim e [ ]
always_leaves P Q (does call plan) rest (m ∷ made) h e = always_leaves P Q plan rest made h e.1
always_leaves P Q (asks node name next) rest (m ∷ made) h e = always_leaves P Q (next m.missed) rest made (h m.missed) e.1

-- and so do the causes of its refusals
pub caused_leaves : {A : Type 0} (R : PlainCluster → Refusal → Type 0) (plan rest : Plan A) (made : List Made) → Caused R plan → Leaves plan made rest → Caused R rest
caused_leaves R plan rest [] h e = subst (Caused R) e h
caused_leaves R (gives a) rest (m ∷ made) h e = elim e [ ]
caused_leaves R (refuses c why) rest (m ∷ made) h e = elim e [ ]
caused_leaves R (does call plan) rest (m ∷ made) h e = caused_leaves R plan rest made h e.1
caused_leaves R (asks node name next) rest (m ∷ made) h e = caused_leaves R (next m.missed) rest made (h m.missed) e.1

-- ---- plans in which no read misses

pub unmissed_then : {A B : Type 0} (P : A → Type 0) (P' : B → Type 0) (R : PlainCluster → Refusal → Type 0) (plan : Plan A) (f : A → Plan B) → Unmissed P R plan → ((a : A) → P a → Unmissed P' R (f a)) → Unmissed P' R (plan >>= f)
unmissed_then P P' R (gives a) f h k = k a h
unmissed_then P P' R (refuses c why) f h k = h
unmissed_then P P' R (does call plan) f h k = unmissed_then P P' R plan f h k
unmissed_then P P' R (asks node name next) f h k = unmissed_then P P' R (next false) f h k

pub unmissed_do : {A : Type 0} (P : A → Type 0) (R : PlainCluster → Refusal → Type 0) (calls : List Call) (plan : Plan A) → Unmissed P R plan → Unmissed P R (do_all calls plan)
unmissed_do P R [] plan h = h
unmissed_do P R (call ∷ calls) plan h = unmissed_do P R calls plan h

-- what holds of a plan holds of what is left of it after calls none of which missed
pub unmissed_leaves : {A : Type 0} (P : A → Type 0) (R : PlainCluster → Refusal → Type 0) (plan rest : Plan A) (made : List Made) → Unmissed P R plan → NoneMissed made → Leaves plan made rest → Unmissed P R rest
unmissed_leaves P R plan rest [] h n e = subst (Unmissed P R) e h
unmissed_leaves P R (gives a) rest (m ∷ made) h n e = elim e [ ]
unmissed_leaves P R (refuses c why) rest (m ∷ made) h n e = elim e [ ]
unmissed_leaves P R (does call plan) rest (m ∷ made) h n e = unmissed_leaves P R plan rest made h n.1 e.1
unmissed_leaves P R (asks node name next) rest (m ∷ made) h n e = unmissed_leaves P R (next m.missed) rest made (subst (λ v. Unmissed P R (next v)) (sym n.0) h) n.1 e.1

-- where no read misses, with what always holds
pub unmissed_with : {A : Type 0} (P P' P'' : A → Type 0) (Q : PlainCluster → Type 0) (R : PlainCluster → Refusal → Type 0) (plan : Plan A) → Unmissed P R plan → Always P' Q plan → ((a : A) → P a → P' a → P'' a) → Unmissed P'' R plan
unmissed_with P P' P'' Q R (gives a) h k f = f a h k
unmissed_with P P' P'' Q R (refuses c why) h k f = h
unmissed_with P P' P'' Q R (does call plan) h k f = unmissed_with P P' P'' Q R plan h k f
unmissed_with P P' P'' Q R (asks node name next) h k f = unmissed_with P P' P'' Q R (next false) h (k false) f

-- a refusal has a weaker cause
pub unmissed_refused : {A : Type 0} (P : A → Type 0) (R S : PlainCluster → Refusal → Type 0) (plan : Plan A) → ((c : PlainCluster) (why : Refusal) → R c why → S c why) → Unmissed P R plan → Unmissed P S plan
unmissed_refused P R S (gives a) f h = h
unmissed_refused P R S (refuses c why) f h = f c why h
unmissed_refused P R S (does call plan) f h = unmissed_refused P R S plan f h
unmissed_refused P R S (asks node name next) f h = unmissed_refused P R S (next false) f h
