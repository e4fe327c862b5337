-- What is removed where it does not stay.
use Rattle.std.specs.Prelude.{ℕ, ◌==◌, nat_lt, Bool, true, false, ◌&&◌, ◌||◌, not, List, [], ◌∷◌, map, if◌then◌else◌}
use Rattle.std.specs.List.{filter}
use Rattle.node_names.specs.Names.{numbers_of}
use Rattle.node_names.specs.declared.name.Name.{Name}
use Rattle.node_names.specs.declared.name.Name.TheVariants.{Blk, Spill, Out, Ric, Mic, Roc}
use Rattle.replica_table.specs.Copies.{but_those}
use Rattle.replica_table.specs.Sets.{among}
use Rattle.run_model.specs.Plans.{Plan, gives, do_all, Call, Remove}
use Rattle.run_model.specs.State.{Copy, PlainCluster, Setup, with_copies}
use Rattle.run_model.specs.Stays.{stays}

-- the place of a name's kind in the order of names
abbrev pub kind_number : Name → ℕ
kind_number (Blk t b) = 0
kind_number (Spill i j s q) = 1
kind_number (Out i j p) = 2
kind_number (Ric j s p) = 3
kind_number (Mic t b) = 4
kind_number (Roc i p) = 5

-- names come by kind, and then by their numbers from the left
abbrev pub name_key : Name → List ℕ
name_key name = kind_number name ∷ numbers_of name

-- the first list comes before the other, or they are the same
abbrev pub comes_before : List ℕ → List ℕ → Bool
comes_before [] ys = true
comes_before (x ∷ xs) [] = false
comes_before (x ∷ xs) (y ∷ ys) = nat_lt x y || ((x == y) && comes_before xs ys)

-- where a copy goes in an ordered list
abbrev pub in_order : Copy → List Copy → List Copy
in_order it [] = it ∷ []
in_order it (other ∷ copies) = if comes_before (name_key it.name) (name_key other.name) then it ∷ other ∷ copies else other ∷ in_order it copies

-- copies by name, those of a name as they stood
abbrev pub ordered : List Copy → List Copy
ordered [] = []
ordered (it ∷ copies) = in_order it (ordered copies)

-- the copies on these nodes that do not stay
abbrev pub going : Setup → List ℕ → PlainCluster → List Copy
going setup nodes c = filter (λ it. not (stays setup.shape setup.schedule.keep c.round it.name) && among it.node nodes) c.copies

-- each is removed, by name and then by node
abbrev pub removals : Setup → List ℕ → PlainCluster → List Call
removals setup nodes c = map (λ it. Remove it.node it.name) (ordered (going setup nodes c))

-- what does not stay is removed from these nodes
abbrev pub clear : Setup → List ℕ → PlainCluster → Plan PlainCluster
clear setup nodes c = do_all (removals setup nodes c) (gives (with_copies (but_those (λ name. not (stays setup.shape setup.schedule.keep c.round name)) nodes c.copies) c))
