-- Disks that show their damage go on showing it.
use Rattle.std.proofs.Common.{◌≡◌, ◌≢◌, ℕ, Bool, true, false, cond, inl, inr, List, ◌∷◌, Option, None, Some, refl, ap, ◌∙◌, subst}
use Rattle.node_names.specs.declared.name.Name.{Name}
use Rattle.hal_outside.specs.DiskFiles.{file_at, file_key, is_on}
use Rattle.hal_outside.specs.DiskCalls.{Call, Write, Read, Remove, Wipe}
use Rattle.hal_outside.specs.Damage.{ShowsAt, ShowsDamage}
use Rattle.hal_outside.specs.DiskSteps.{Step, called, damage, now_after, put_after, script_told}
use Rattle.hal_outside.specs.steps.DiskLogs.{Spoils, found_after}
use Rattle.hal_outside.proofs.DiskMaps.{get_after, is_file}
use Rattle.sha2.specs.Sha256.{sha256}

-- what lies there shows what became of all that was put
abbrev Shown : Option (List ℕ) → Option (List ℕ) → Type 0
Shown put now = (bytes : List ℕ) → put ≡ Some bytes → ShowsAt bytes now

-- one change of both keeps it
both : (t : Bool) (file put now : Option (List ℕ)) → Shown file file → Shown put now → Shown (cond t file put) (cond t file now)
both true file put now s k = s
both false file put now s k = k

one_file : (bytes : List ℕ) → Shown (Some bytes) (Some bytes)
one_file bytes other e = inl cc

no_file : Shown None None
no_file bytes e = tt

by_call : (call : Call) (key : List ℕ) (put now : Option (List ℕ)) → Shown put now → Shown (found_after call key put) (found_after call key now)
by_call (Write node name bytes) key put now s = both (is_file node name key) (Some bytes) put now (one_file bytes) s
by_call (Read node name want answer) key put now s = s
by_call (Remove node name) key put now s = both (is_file node name key) None put now no_file s
by_call (Wipe node) key put now s = both (is_on node key) None put now no_file s

shown_as : (put new_put now new_now : Option (List ℕ)) → new_put ≡ put → new_now ≡ now → Shown put now → Shown new_put new_now
shown_as put new_put now new_now a b s = rw (a, b) s

-- so does a call
called_shows : (call : Call) (steps : List Step) → ShowsDamage (script_told steps) → ShowsDamage (script_told (called call ∷ steps))
called_shows call steps s = record {
  each = λ node name. shown_as (found_after call (file_key node name) (file_at (put_after steps) node name)) (file_at (put_after (called call ∷ steps)) node name) (found_after call (file_key node name) (file_at (now_after steps) node name)) (file_at (now_after (called call ∷ steps)) node name)
      (get_after call (put_after steps) (file_key node name)) (get_after call (now_after steps) (file_key node name))
      (by_call call (file_key node name) (file_at (put_after steps) node name) (file_at (now_after steps) node name) (s.each node name));
}

-- a file that is gone shows it
gone : (t : Bool) (put now : Option (List ℕ)) → Shown put now → Shown put (cond t None now)
gone true put now s bytes e = tt
gone false put now s bytes e = s bytes e

lost_shows : (node : ℕ) (name : Name) (steps : List Step) → ShowsDamage (script_told steps) → ShowsDamage (script_told (damage (Remove node name) ∷ steps))
lost_shows node name steps s = record {
  each = λ n m. shown_as (file_at (put_after steps) n m) (file_at (put_after steps) n m) (found_after (Remove node name) (file_key n m) (file_at (now_after steps) n m)) (file_at (now_after (damage (Remove node name) ∷ steps)) n m)
      refl (get_after (Remove node name) (now_after steps) (file_key n m))
      (gone (is_file node name (file_key n m)) (file_at (put_after steps) n m) (file_at (now_after steps) n m) (s.each n m));
}

-- so does one that has another digest than what was just written
other : (t : Bool) (bytes spoilt : List ℕ) (put now : Option (List ℕ)) → sha256 spoilt ≢ sha256 bytes → Shown put now → Shown (cond t (Some bytes) put) (cond t (Some spoilt) (cond t (Some bytes) now))
other true bytes spoilt put now n s found e = let same : bytes ≡ found = cc in inr (subst (λ b. sha256 spoilt ≢ sha256 b) same n)
other false bytes spoilt put now n s found e = s found e

other_shows : (node : ℕ) (name : Name) (bytes spoilt : List ℕ) (steps : List Step) → sha256 spoilt ≢ sha256 bytes → ShowsDamage (script_told steps) → ShowsDamage (script_told (damage (Write node name spoilt) ∷ called (Write node name bytes) ∷ steps))
other_shows node name bytes spoilt steps n s = record {
  each = λ k m. shown_as (found_after (Write node name bytes) (file_key k m) (file_at (put_after steps) k m)) (file_at (put_after (called (Write node name bytes) ∷ steps)) k m)
      (found_after (Write node name spoilt) (file_key k m) (found_after (Write node name bytes) (file_key k m) (file_at (now_after steps) k m))) (file_at (now_after (damage (Write node name spoilt) ∷ called (Write node name bytes) ∷ steps)) k m)
      (get_after (Write node name bytes) (put_after steps) (file_key k m))
      (get_after (Write node name spoilt) (now_after (called (Write node name bytes) ∷ steps)) (file_key k m) ∙ ap (found_after (Write node name spoilt) (file_key k m)) (get_after (Write node name bytes) (now_after steps) (file_key k m)))
      (other (is_file node name (file_key k m)) bytes spoilt (file_at (put_after steps) k m) (file_at (now_after steps) k m) n (s.each k m));
}

shows_as : (steps new : List Step) → new ≡ steps → ShowsDamage (script_told steps) → ShowsDamage (script_told new)
shows_as steps new e s = rw e s

-- as the calls leave them
pub added_shows : (call : Call) (steps new : List Step) → new ≡ called call ∷ steps → ShowsDamage (script_told steps) → ShowsDamage (script_told new)
added_shows call steps new e s = shows_as (called call ∷ steps) new e (called_shows call steps s)

-- a file that was spoilt behind its write
pub spoilt_shows : (node : ℕ) (name : Name) (bytes : List ℕ) (steps written new : List Step) → written ≡ called (Write node name bytes) ∷ steps → Spoils node name bytes written new → ShowsDamage (script_told steps) → ShowsDamage (script_told new)
spoilt_shows node name bytes steps written new w p s =
    elim p [
      | inl lost ↦ shows_as (damage (Remove node name) ∷ called (Write node name bytes) ∷ steps) new (lost ∙ ap (λ rest. damage (Remove node name) ∷ rest) w) (lost_shows node name (called (Write node name bytes) ∷ steps) (called_shows (Write node name bytes) steps s))
      | inr q ↦ shows_as (damage (Write node name q.0) ∷ called (Write node name bytes) ∷ steps) new (q.2 ∙ ap (λ rest. damage (Write node name q.0) ∷ rest) w) (other_shows node name bytes q.0 steps q.1 s)
    ]
