-- The words of entries: they have no space and no end of a line.
use Rattle.std.proofs.Common.{◌≡◌, ℕ, ◌<◌, ◌^◌, nat_eq, List, [], ◌∷◌, ◌++◌, refl, ap, ◌∙◌, map, length, arith, rules}
use Rattle.std.specs.Fmt.{decimal}
use Rattle.std.specs.List.{AllByRecursion, join_with_byte, slice_split}
use Rattle.std.specs.Str.Parse.{AllDigits}
use Rattle.std.proofs.lemmas.Fmt.{decimal_is_IsNumeral}
use Rattle.std.proofs.lemmas.Str.Parse.{digit_from_value}
use Rattle.hal_base.proofs.Cuts.{Without, split_at_byte, split_without, without-append}
use Rattle.hal_base.proofs.Spellings.{above}
use Rattle.node_names.specs.declared.name.Name.{Name}
use Rattle.node_names.specs.declared.name.NameKind.{NameKind}
use Rattle.node_names.specs.declared.name.NameKind.TheVariants as kind
use Rattle.node_names.specs.declared.task.Task.{Task}
use Rattle.node_names.specs.declared.task.Task.TheVariants.{Map, Reduce, Test}
use Rattle.node_names.specs.Names.{kind_of, kind_word, name_text, numbers_of}
use Rattle.node_names.specs.Tasks.{numbers_in, task_word, text_of_task}
use Rattle.node_names.specs.Worded.{AreSmall}
use Rattle.counter_report.specs.declared.journal.EndWord.{EndWord}
use Rattle.counter_report.specs.declared.journal.EndWord.TheVariants as end_word
use Rattle.counter_report.specs.declared.journal.Entry.{Entry}
use Rattle.counter_report.specs.declared.journal.Entry.TheVariants.{Round, Start, Commit, Starve, Fail, Kill, Dropped, Struck, Lose, Back, Wipe, Busy, Idle, Skip, End}
use Rattle.counter_report.specs.declared.journal.EventWord.{EventWord}
use Rattle.counter_report.specs.declared.journal.EventWord.TheVariants as event
use Rattle.counter_report.specs.Journals.{FitsTypes, end_text, event_text, words_of}

-- no byte is a space or a control character
abbrev pub IsSolid : List ℕ → Type 0
IsSolid bytes = AllByRecursion (λ b. 32 < b) bytes

solid_without : (c : ℕ) (bytes : List ℕ) → c < 33 → IsSolid bytes → Without c bytes
solid_without c [] l s = tt
solid_without c (b ∷ bytes) l s = (above b c (omega arith), solid_without c bytes l s.1)

solid-append : (xs ys : List ℕ) → IsSolid xs → IsSolid ys → IsSolid (xs ++ ys)
solid-append [] ys s t = t
solid-append (x ∷ xs) ys s t = (s.0, solid-append xs ys s.1 t)

-- words that are joined by such a byte are such a text
solid_joined : (between : ℕ) (words : List (List ℕ)) → 32 < between → AllByRecursion IsSolid words → IsSolid (join_with_byte between words)
solid_joined between [] l s = tt
solid_joined between (x ∷ []) l s = s.0
solid_joined between (x ∷ y ∷ words) l s = solid-append x (between ∷ join_with_byte between (y ∷ words)) s.0 (l, solid_joined between (y ∷ words) l s.1)

solid_digits : (digits : List ℕ) → AllDigits 10 digits → IsSolid digits
solid_digits [] a = tt
solid_digits (c ∷ digits) a = let r = digit_from_value c a.0 in (omega arith, solid_digits digits a.1)

solid_number : (n : ℕ) → n < 2 ^ 64 → IsSolid (decimal n)
solid_number n l = solid_digits (decimal n) (decimal_is_IsNumeral n l).0.1

solid_small : (n : ℕ) → n < 2 ^ 32 → IsSolid (decimal n)
solid_small n l = solid_number n (omega arith)

solid_numbers : (numbers : List ℕ) → AreSmall numbers → AllByRecursion IsSolid (map decimal numbers)
solid_numbers [] a = tt
solid_numbers (n ∷ numbers) a = (solid_small n a.0, solid_numbers numbers a.1)

solid_task : (task : Task) → AreSmall (numbers_in task) → IsSolid (text_of_task task)
solid_task task a = solid_joined 46 (task_word task ∷ map decimal (numbers_in task)) (omega arith) (word task, solid_numbers (numbers_in task) a)
  where
    word : (task : Task) → IsSolid (task_word task)
    word (Map i j s q) = search rules
    word (Reduce i j p) = search rules
    word (Test i p) = search rules

solid_name : (name : Name) → AreSmall (numbers_of name) → IsSolid (name_text name)
solid_name name a = solid_joined 45 (kind_word (kind_of name) ∷ map decimal (numbers_of name)) (omega arith) (word (kind_of name), solid_numbers (numbers_of name) a)
  where
    word : (k : NameKind) → IsSolid (kind_word k)
    word kind.Blk = search rules
    word kind.Spill = search rules
    word kind.Out = search rules
    word kind.Ric = search rules
    word kind.Mic = search rules
    word kind.Roc = search rules

solid_event : (word : EventWord) → IsSolid (event_text word)
solid_event event.Done = search rules
solid_event event.Fail = search rules
solid_event event.Lose = search rules
solid_event event.Back = search rules
solid_event event.Wipe = search rules
solid_event event.Busy = search rules
solid_event event.Idle = search rules
solid_event event.Round = search rules

solid_end : (word : EndWord) → IsSolid (end_text word)
solid_end end_word.Fixpoint = search rules
solid_end end_word.Close = search rules
solid_end end_word.Limit = search rules

-- so are all words of an entry
pub solid_words : (entry : Entry) → FitsTypes entry → AllByRecursion IsSolid (words_of entry)
solid_words (Round round) f = (search rules, (solid_small round f.0, tt))
solid_words (Start task node) f = (search rules, (solid_task task f.0, (solid_small node f.1.0, tt)))
solid_words (Commit task node local remote caches) f = (search rules, (solid_task task f.0, (solid_small node f.1.0, (solid_number local f.2.0, (solid_number remote f.2.1.0, (solid_number caches f.2.1.1.0, tt))))))
solid_words (Starve task node) f = (search rules, (solid_task task f.0, (solid_small node f.1.0, tt)))
solid_words (Fail task node count) f = (search rules, (solid_task task f.0, (solid_small node f.1.0, (solid_small count f.1.1.0, tt))))
solid_words (Kill task node) f = (search rules, (solid_task task f.0, (solid_small node f.1.0, tt)))
solid_words (Dropped task node) f = (search rules, (solid_task task f.0, (solid_small node f.1.0, tt)))
solid_words (Struck name node) f = (search rules, (solid_name name f.0, (solid_small node f.1.0, tt)))
solid_words (Lose node) f = (search rules, (solid_small node f.0, tt))
solid_words (Back node) f = (search rules, (solid_small node f.0, tt))
solid_words (Wipe node) f = (search rules, (solid_small node f.0, tt))
solid_words (Busy node) f = (search rules, (solid_small node f.0, tt))
solid_words (Idle node) f = (search rules, (solid_small node f.0, tt))
solid_words (Skip word number) f = (search rules, (solid_event word, (solid_small number f.0, tt)))
solid_words (End word round) f = (search rules, (solid_end word, (solid_small round f.0, tt)))

-- words with one space between are cut apart again
pub words_again : (words : List (List ℕ)) → 0 < length words → AllByRecursion IsSolid words → slice_split (λ b. nat_eq b 32) (join_with_byte 32 words) ≡ words
words_again [] l s = absurd (omega arith)
words_again (word ∷ []) l s = split_without 32 word (solid_without 32 word (omega arith) s.0)
words_again (word ∷ next ∷ words) l s = split_at_byte 32 word (join_with_byte 32 (next ∷ words)) refl (solid_without 32 word (omega arith) s.0) ∙ ap (λ parts. word ∷ parts) (words_again (next ∷ words) (omega arith) s.1)

-- and have no end of a line
pub words_in_line : (words : List (List ℕ)) → AllByRecursion IsSolid words → Without 10 (join_with_byte 32 words)
words_in_line [] s = tt
words_in_line (x ∷ []) s = solid_without 10 x (omega arith) s.0
words_in_line (x ∷ y ∷ words) s = without-append 10 x (32 ∷ join_with_byte 32 (y ∷ words)) (solid_without 10 x (omega arith) s.0) (refl, words_in_line (y ∷ words) s.1)

pub some_word : (entry : Entry) → 0 < length (words_of entry)
some_word (Round round) = omega arith
some_word (Start task node) = omega arith
some_word (Commit task node local remote caches) = omega arith
some_word (Starve task node) = omega arith
some_word (Fail task node count) = omega arith
some_word (Kill task node) = omega arith
some_word (Dropped task node) = omega arith
some_word (Struck name node) = omega arith
some_word (Lose node) = omega arith
some_word (Back node) = omega arith
some_word (Wipe node) = omega arith
some_word (Busy node) = omega arith
some_word (Idle node) = omega arith
some_word (Skip word number) = omega arith
some_word (End word round) = omega arith
