-- Journals are told apart by their texts.
use Rattle.std.proofs.Common.{◌≡◌, ℕ, ◌<◌, ◌^◌, nat_eq, if◌then◌else◌, List, [], ◌∷◌, refl, sym, ap, ◌∙◌, map, get_or, arith, append_assoc}
use Rattle.std.specs.Fmt.{decimal}
use Rattle.std.specs.Prelude.{codes}
use Rattle.std.specs.List.{AllByRecursion, slice_split}
use Rattle.std.specs.Str.{bytes_eq}
use Rattle.std.proofs.lemmas.Fmt.{decimal_injective}
use Rattle.hal_base.specs.Lines.{lines_in}
use Rattle.hal_base.proofs.Cuts.{lines_at_end}
use Rattle.node_names.proofs.Words.{distinct_names, distinct_tasks}
use Rattle.counter_report.specs.declared.journal.EndWord.{EndWord}
use Rattle.counter_report.specs.declared.journal.EndWord.TheVariants as end_word
use Rattle.counter_report.specs.declared.journal.Entry.{Entry}
use Rattle.counter_report.specs.declared.journal.Entry.TheVariants.{Round, Start, Commit, Starve, Fail, Kill, Dropped, Struck, Lose, Back, Wipe, Busy, Idle, Skip, End}
use Rattle.counter_report.specs.declared.journal.EventWord.{EventWord}
use Rattle.counter_report.specs.declared.journal.EventWord.TheVariants as event
use Rattle.counter_report.specs.Journals.{DistinctJournals, FitsTypes, end_text, entry_text, event_text, journal_text, words_of}
use Rattle.counter_report.proofs.Words.{solid_words, some_word, words_again, words_in_line}

-- ---- words

same_number : (m n : ℕ) → m < 2 ^ 32 → n < 2 ^ 32 → decimal m ≡ decimal n → m ≡ n
same_number m n l k e = decimal_injective m n (omega arith) (omega arith) e

-- the sort of events of a word
event_of : List ℕ → EventWord
event_of w =
    if bytes_eq w (codes "done") then event.Done
    else if bytes_eq w (codes "fail") then event.Fail
    else if bytes_eq w (codes "lose") then event.Lose
    else if bytes_eq w (codes "back") then event.Back
    else if bytes_eq w (codes "wipe") then event.Wipe
    else if bytes_eq w (codes "busy") then event.Busy
    else if bytes_eq w (codes "idle") then event.Idle
    else event.Round

event_again : (word : EventWord) → event_of (event_text word) ≡ word
unfolding event_of
event_again event.Done = refl
event_again event.Fail = refl
event_again event.Lose = refl
event_again event.Back = refl
event_again event.Wipe = refl
event_again event.Busy = refl
event_again event.Idle = refl
event_again event.Round = refl

same_event : (a b : EventWord) → event_text a ≡ event_text b → a ≡ b
same_event a b e = sym (event_again a) ∙ ap event_of e ∙ event_again b

-- the end of a word
end_of : List ℕ → EndWord
end_of w =
    if bytes_eq w (codes "fixpoint") then end_word.Fixpoint
    else if bytes_eq w (codes "close") then end_word.Close
    else end_word.Limit

end_again : (word : EndWord) → end_of (end_text word) ≡ word
unfolding end_of
end_again end_word.Fixpoint = refl
end_again end_word.Close = refl
end_again end_word.Limit = refl

same_end : (a b : EndWord) → end_text a ≡ end_text b → a ≡ b
same_end a b e = sym (end_again a) ∙ ap end_of e ∙ end_again b

-- ---- sorts of entries

-- the number of a sort, by the first word
sort_of : List (List ℕ) → ℕ
sort_of [] = 0
sort_of (w ∷ words) =
    if bytes_eq w (codes "round") then 1
    else if bytes_eq w (codes "start") then 2
    else if bytes_eq w (codes "commit") then 3
    else if bytes_eq w (codes "starve") then 4
    else if bytes_eq w (codes "fail") then 5
    else if bytes_eq w (codes "kill") then 6
    else if bytes_eq w (codes "drop") then 7
    else if bytes_eq w (codes "struck") then 8
    else if bytes_eq w (codes "lose") then 9
    else if bytes_eq w (codes "back") then 10
    else if bytes_eq w (codes "wipe") then 11
    else if bytes_eq w (codes "busy") then 12
    else if bytes_eq w (codes "idle") then 13
    else if bytes_eq w (codes "skip") then 14
    else if bytes_eq w (codes "end") then 15
    else 0

sort_number : Entry → ℕ
sort_number (Round a) = 1
sort_number (Start a b) = 2
sort_number (Commit a b c d e) = 3
sort_number (Starve a b) = 4
sort_number (Fail a b c) = 5
sort_number (Kill a b) = 6
sort_number (Dropped a b) = 7
sort_number (Struck a b) = 8
sort_number (Lose a) = 9
sort_number (Back a) = 10
sort_number (Wipe a) = 11
sort_number (Busy a) = 12
sort_number (Idle a) = 13
sort_number (Skip a b) = 14
sort_number (End a b) = 15

sort_again : (entry : Entry) → sort_of (words_of entry) ≡ sort_number entry
unfolding sort_of sort_number
sort_again (Round a) = refl
sort_again (Start a b) = refl
sort_again (Commit a b c d e) = refl
sort_again (Starve a b) = refl
sort_again (Fail a b c) = refl
sort_again (Kill a b) = refl
sort_again (Dropped a b) = refl
sort_again (Struck a b) = refl
sort_again (Lose a) = refl
sort_again (Back a) = refl
sort_again (Wipe a) = refl
sort_again (Busy a) = refl
sort_again (Idle a) = refl
sort_again (Skip a b) = refl
sort_again (End a b) = refl

-- ---- entries

nth : ℕ → List (List ℕ) → List ℕ
nth i words = get_or words i []

same_entry : (a b : Entry) → FitsTypes a → FitsTypes b → sort_number a ≡ sort_number b → words_of a ≡ words_of b → a ≡ b
unfolding sort_number nth
same_entry (Round a) (Round a') f g s e = rw (same_number a a' f.0 g.0 (ap (nth 1) e))
same_entry (Start a b) (Start a' b') f g s e = rw (distinct_tasks a a' f.0 g.0 (ap (nth 1) e), same_number b b' f.1.0 g.1.0 (ap (nth 2) e))
same_entry (Commit a b c d x) (Commit a' b' c' d' x') f g s e = rw (distinct_tasks a a' f.0 g.0 (ap (nth 1) e), same_number b b' f.1.0 g.1.0 (ap (nth 2) e), decimal_injective c c' f.2.0 g.2.0 (ap (nth 3) e), decimal_injective d d' f.2.1.0 g.2.1.0 (ap (nth 4) e), decimal_injective x x' f.2.1.1.0 g.2.1.1.0 (ap (nth 5) e))
same_entry (Starve a b) (Starve a' b') f g s e = rw (distinct_tasks a a' f.0 g.0 (ap (nth 1) e), same_number b b' f.1.0 g.1.0 (ap (nth 2) e))
same_entry (Fail a b c) (Fail a' b' c') f g s e = rw (distinct_tasks a a' f.0 g.0 (ap (nth 1) e), same_number b b' f.1.0 g.1.0 (ap (nth 2) e), same_number c c' f.1.1.0 g.1.1.0 (ap (nth 3) e))
same_entry (Kill a b) (Kill a' b') f g s e = rw (distinct_tasks a a' f.0 g.0 (ap (nth 1) e), same_number b b' f.1.0 g.1.0 (ap (nth 2) e))
same_entry (Dropped a b) (Dropped a' b') f g s e = rw (distinct_tasks a a' f.0 g.0 (ap (nth 1) e), same_number b b' f.1.0 g.1.0 (ap (nth 2) e))
same_entry (Struck a b) (Struck a' b') f g s e = rw (distinct_names a a' f.0 g.0 (ap (nth 1) e), same_number b b' f.1.0 g.1.0 (ap (nth 2) e))
same_entry (Lose a) (Lose a') f g s e = rw (same_number a a' f.0 g.0 (ap (nth 1) e))
same_entry (Back a) (Back a') f g s e = rw (same_number a a' f.0 g.0 (ap (nth 1) e))
same_entry (Wipe a) (Wipe a') f g s e = rw (same_number a a' f.0 g.0 (ap (nth 1) e))
same_entry (Busy a) (Busy a') f g s e = rw (same_number a a' f.0 g.0 (ap (nth 1) e))
same_entry (Idle a) (Idle a') f g s e = rw (same_number a a' f.0 g.0 (ap (nth 1) e))
same_entry (Skip a b) (Skip a' b') f g s e = rw (same_event a a' (ap (nth 1) e), same_number b b' f.0 g.0 (ap (nth 2) e))
same_entry (End a b) (End a' b') f g s e = rw (same_end a a' (ap (nth 1) e), same_number b b' f.0 g.0 (ap (nth 2) e))
same_entry a b f g s e = absurd (omega arith)

-- two entries of one line are one entry
distinct_entries : (a b : Entry) → FitsTypes a → FitsTypes b → entry_text a ≡ entry_text b → a ≡ b
distinct_entries a b f g e =
    let words : words_of a ≡ words_of b = sym (again a f) ∙ ap (slice_split (λ byte. nat_eq byte 32)) e ∙ again b g in
    same_entry a b f g (sym (sort_again a) ∙ ap sort_of words ∙ sort_again b) words
  where
    again : (entry : Entry) → FitsTypes entry → slice_split (λ byte. nat_eq byte 32) (entry_text entry) ≡ words_of entry
    again entry f = words_again (words_of entry) (some_word entry) (solid_words entry f)

-- the lines of a journal's text
lines_again : (journal : List Entry) → AllByRecursion FitsTypes journal → lines_in (journal_text journal) ≡ map entry_text journal
lines_again [] f = refl
lines_again (entry ∷ journal) f =
    ap lines_in (append_assoc (entry_text entry) (10 ∷ []) (journal_text journal))
    ∙ lines_at_end (entry_text entry) (journal_text journal) (words_in_line (words_of entry) (solid_words entry f.0))
    ∙ ap (λ lines. entry_text entry ∷ lines) (lines_again journal f.1)

later : List (List ℕ) → List (List ℕ)
later [] = []
later (line ∷ lines) = lines

same_journal : (a b : List Entry) → AllByRecursion FitsTypes a → AllByRecursion FitsTypes b → map entry_text a ≡ map entry_text b → a ≡ b
unfolding nth later
same_journal [] [] f g e = refl
same_journal [] (y ∷ b) f g e = cc
same_journal (x ∷ a) [] f g e = cc
same_journal (x ∷ a) (y ∷ b) f g e = rw (distinct_entries x y f.0 g.0 (ap (nth 0) e), same_journal a b f.1 g.1 (ap later e))

pub distinct_journals : DistinctJournals
distinct_journals a b f g e = same_journal a b f g (sym (lines_again a f) ∙ ap lines_in e ∙ lines_again b g)
