-- Names and tasks are told apart by their words and numbers.
use Rattle.std.proofs.Common.{◌≡◌, ℕ, ◌==◌, if◌then◌else◌, get_or, List, refl, sym, ap, ◌∙◌, arith}
use Rattle.hal_base.proofs.Cuts.{Without}
use Rattle.node_names.specs.declared.name.Name.{Name}
use Rattle.node_names.specs.declared.name.Name.TheVariants.{Blk, Spill, Out, Ric, Mic, Roc}
use Rattle.node_names.specs.declared.name.NameKind.{NameKind}
use Rattle.node_names.specs.declared.name.NameKind.TheVariants as kind
use Rattle.node_names.specs.declared.task.Task.{Task}
use Rattle.node_names.specs.declared.task.Task.TheVariants.{Map, Reduce, Test}
use Rattle.node_names.specs.Names.{DistinctNames, kind_of, kind_word, numbers_of}
use Rattle.node_names.specs.Tasks.{DistinctTasks, numbers_in, task_word}
use Rattle.node_names.proofs.Distinct.{same_worded}

-- ---- names

word_without : (k : NameKind) → Without 45 (kind_word k)
word_without kind.Blk = (refl, (refl, (refl, tt)))
word_without kind.Spill = (refl, (refl, (refl, (refl, (refl, tt)))))
word_without kind.Out = (refl, (refl, (refl, tt)))
word_without kind.Ric = (refl, (refl, (refl, tt)))
word_without kind.Mic = (refl, (refl, (refl, tt)))
word_without kind.Roc = (refl, (refl, (refl, tt)))

-- the sort of a word, by its first two letters
sort_of : List ℕ → NameKind
sort_of w = if get_or w 0 0 == 98 then kind.Blk else if get_or w 0 0 == 115 then kind.Spill else if get_or w 0 0 == 111 then kind.Out else if get_or w 0 0 == 109 then kind.Mic else if get_or w 1 0 == 105 then kind.Ric else kind.Roc

sort_of_word : (k : NameKind) → sort_of (kind_word k) ≡ k
unfolding sort_of
sort_of_word kind.Blk = refl
sort_of_word kind.Spill = refl
sort_of_word kind.Out = refl
sort_of_word kind.Ric = refl
sort_of_word kind.Mic = refl
sort_of_word kind.Roc = refl

same_name : (a b : Name) → kind_of a ≡ kind_of b → numbers_of a ≡ numbers_of b → a ≡ b
same_name (Blk _ _) (Blk _ _) k e = cc
same_name (Spill _ _ _ _) (Spill _ _ _ _) k e = cc
same_name (Out _ _ _) (Out _ _ _) k e = cc
same_name (Ric _ _ _) (Ric _ _ _) k e = cc
same_name (Mic _ _) (Mic _ _) k e = cc
same_name (Roc _ _) (Roc _ _) k e = cc
same_name a b k e = cc

pub distinct_names : DistinctNames
distinct_names a b g h e =
    let same = same_worded 45 (omega arith) (kind_word (kind_of a)) (kind_word (kind_of b)) (numbers_of a) (numbers_of b) (word_without (kind_of a)) (word_without (kind_of b)) g h e in
    same_name a b (sym (sort_of_word (kind_of a)) ∙ ap sort_of same.0 ∙ sort_of_word (kind_of b)) same.1

-- ---- tasks

task_without : (t : Task) → Without 46 (task_word t)
task_without (Map _ _ _ _) = (refl, (refl, (refl, tt)))
task_without (Reduce _ _ _) = (refl, (refl, (refl, (refl, (refl, (refl, tt))))))
task_without (Test _ _) = (refl, (refl, (refl, (refl, tt))))

-- tasks of different sorts have different numbers of numbers
same_task : (a b : Task) → numbers_in a ≡ numbers_in b → a ≡ b
same_task (Map _ _ _ _) (Map _ _ _ _) e = cc
same_task (Reduce _ _ _) (Reduce _ _ _) e = cc
same_task (Test _ _) (Test _ _) e = cc
same_task a b e = cc

pub distinct_tasks : DistinctTasks
distinct_tasks a b g h e =
    same_task a b (same_worded 46 (omega arith) (task_word a) (task_word b) (numbers_in a) (numbers_in b) (task_without a) (task_without b) g h e).1
