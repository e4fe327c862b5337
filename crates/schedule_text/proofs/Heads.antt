-- The head of lines, line by line.
use Rattle.std.proofs.Common.{◌≡◌, ℕ, ◌+◌, true, false, List, [], ◌∷◌, ◌++◌, Option, None, Some, refl, sym, ap, ◌∙◌, subst, cond, length, is_some, append_assoc, append-nil, length-append}
use Rattle.std.specs.List.{AllByRecursion, cons_option, filter_map}
use Rattle.schedule_text.specs.declared.fault.ScheduleFault.{ScheduleFault}
use Rattle.schedule_text.specs.declared.head.Head.{Head}
use Rattle.schedule_text.specs.declared.words.Setting.{Setting}
use Rattle.schedule_text.specs.declared.words.Setting.TheVariants.{Nodes, Slots, Copies, Block, Attempts, Keep}
use Rattle.schedule_text.specs.Faults.{Fault, IsFirst, faults_in, faults_of_setting, fault_if, head_line_faults, setting_faults}
use Rattle.schedule_text.specs.Lines.{Line, event_lines, first, given, head_lines, is_event_line, is_skipped, number_for, setting_in}
use Rattle.schedule_text.specs.steps.Heads.{HeadRead, behind_line, behind_saying, has, head_of}
use Rattle.schedule_text.proofs.FirstFaults.{fault_further, right_further}
use Rattle.schedule_text.proofs.Pieces.{skipped_setting}

-- none of these lines is an event line
abbrev pub ArePlain : List Line → Type 0
ArePlain lines = AllByRecursion (λ (line : Line). is_event_line line.1 ≡ false) lines

pub plain_further : (before : List Line) (line : Line) → ArePlain before → is_event_line line.1 ≡ false → ArePlain (before ++ line ∷ [])
plain_further [] line p e = (e, tt)
plain_further (b ∷ before) line p e = (p.0, plain_further before line p.1 e)

-- the lines of the head begin with those that are no event lines
pub head_lines-append : (before left : List Line) → ArePlain before → head_lines (before ++ left) ≡ before ++ head_lines left
head_lines-append [] left p = refl
head_lines-append (b ∷ before) left p = rw p.0 (ap (λ (ls : List Line). b ∷ ls) (head_lines-append before left p.1))

pub event_lines-append : (before left : List Line) → ArePlain before → event_lines (before ++ left) ≡ event_lines left
event_lines-append [] left p = refl
event_lines-append (b ∷ before) left p = rw p.0 (event_lines-append before left p.1)

no_head : (left : List Line) → head_lines left ≡ [] → event_lines left ≡ left
no_head [] e = refl
no_head (x ∷ left) e =
    elim (is_event_line x.1) as (λ t. is_event_line x.1 ≡ t → event_lines (x ∷ left) ≡ x ∷ left) [
      | true ↦ λ t. rw t
      | false ↦ λ t. let n : x ∷ head_lines left ≡ [] = rw t at e in cc
    ] refl

-- ---- what is given

module _ {X Y : Type 0} (f : X → Option Y) where
  -- the first of all is there before the last one comes, or is that of the last
  first_further : (xs : List X) (x : X) → first (filter_map f xs) ≡ None → first (filter_map f (xs ++ x ∷ [])) ≡ f x
  first_further [] x e = elim (f x) as (λ o. first (cons_option o []) ≡ o) [ None ↦ refl | Some y ↦ refl ]
  first_further (z ∷ xs) x e =
      elim (f z) as (λ o. f z ≡ o → first (cons_option o (filter_map f xs)) ≡ None → first (cons_option o (filter_map f (xs ++ x ∷ []))) ≡ f x) [
        | None ↦ λ t n. first_further xs x n
        | Some y ↦ λ t n. cc
      ] refl e

  first_same : (xs : List X) (x : X) → f x ≡ None → first (filter_map f (xs ++ x ∷ [])) ≡ first (filter_map f xs)
  first_same [] x e = rw e
  first_same (z ∷ xs) x e =
      elim (f z) as (λ o. first (cons_option o (filter_map f (xs ++ x ∷ []))) ≡ first (cons_option o (filter_map f xs))) [
        | None ↦ first_same xs x e
        | Some y ↦ refl
      ]

given_further : (setting : Setting) (before : List Line) (line : Line) → given setting before ≡ None → given setting (before ++ line ∷ []) ≡ number_for setting line.0 (setting_in line.1)
given_further setting before line e = first_further (λ (it : Line). number_for setting it.0 (setting_in it.1)) before line e

given_same : (setting : Setting) (before : List Line) (line : Line) → number_for setting line.0 (setting_in line.1) ≡ None → given setting (before ++ line ∷ []) ≡ given setting before
given_same setting before line e = first_same (λ (it : Line). number_for setting it.0 (setting_in it.1)) before line e

-- a line that gives nothing leaves the head
head_same : (before : List Line) (line : Line) → setting_in line.1 ≡ None → head_of (before ++ line ∷ []) ≡ head_of before
head_same before line e =
    let none = λ (setting : Setting). given_same setting before line (ap (number_for setting line.0) e) in
    rw (none Nodes, none Slots, none Copies, none Block, none Attempts, none Keep)

-- a line that gives another setting leaves this one
other : (before : List Line) (line : Line) (setting : Setting) (n : ℕ) → setting_in line.1 ≡ Some (setting, Some n) → (it : Setting) → number_for it line.0 (Some (setting, Some n)) ≡ None → given it (before ++ line ∷ []) ≡ given it before
other before line setting n e it o = given_same it before line (ap (number_for it line.0) e ∙ o)

-- a line that gives a setting for the first time is added to the head
head_given : (before : List Line) (line : Line) (setting : Setting) (n : ℕ) → setting_in line.1 ≡ Some (setting, Some n) → given setting before ≡ None → head_of (before ++ line ∷ []) ≡ behind_saying (head_of before) line.0 (Some (setting, Some n))
head_given before line Nodes n e new = rw (given_further Nodes before line new, e, other before line Nodes n e Slots refl, other before line Nodes n e Copies refl, other before line Nodes n e Block refl, other before line Nodes n e Attempts refl, other before line Nodes n e Keep refl)
head_given before line Slots n e new = rw (other before line Slots n e Nodes refl, given_further Slots before line new, e, other before line Slots n e Copies refl, other before line Slots n e Block refl, other before line Slots n e Attempts refl, other before line Slots n e Keep refl)
head_given before line Copies n e new = rw (other before line Copies n e Nodes refl, other before line Copies n e Slots refl, given_further Copies before line new, e, other before line Copies n e Block refl, other before line Copies n e Attempts refl, other before line Copies n e Keep refl)
head_given before line Block n e new = rw (other before line Block n e Nodes refl, other before line Block n e Slots refl, other before line Block n e Copies refl, given_further Block before line new, e, other before line Block n e Attempts refl, other before line Block n e Keep refl)
head_given before line Attempts n e new = rw (other before line Attempts n e Nodes refl, other before line Attempts n e Slots refl, other before line Attempts n e Copies refl, other before line Attempts n e Block refl, given_further Attempts before line new, e, other before line Attempts n e Keep refl)
head_given before line Keep n e new = rw (other before line Keep n e Nodes refl, other before line Keep n e Slots refl, other before line Keep n e Copies refl, other before line Keep n e Block refl, other before line Keep n e Attempts refl, given_further Keep before line new, e)

-- ---- a head that takes a line

has_given : (before : List Line) (setting : Setting) → has (head_of before) setting ≡ is_some (given setting before)
has_given before Nodes = refl
has_given before Slots = refl
has_given before Copies = refl
has_given before Block = refl
has_given before Attempts = refl
has_given before Keep = refl

same_saying : (before : List Line) (n : ℕ) (says : Option (Setting × Option ℕ)) → faults_of_setting (has (head_of before)) n says ≡ faults_of_setting (λ setting. is_some (given setting before)) n says
same_saying before n None = refl
same_saying before n (Some (setting, None)) = refl
same_saying before n (Some (setting, Some number)) = rw (has_given before setting)

-- what a head knows of the lines before is enough to judge one more
same_faults : (before : List Line) (line : Line) → setting_faults (has (head_of before)) line ≡ head_line_faults before line
same_faults before line = rw (same_saying before line.0 (setting_in line.1))

not_given : {X : Type 0} (o : Option X) (fault : Fault) (faults : List Fault) → fault_if (is_some o) fault ++ faults ≡ [] → o ≡ None
not_given None fault faults e = refl
not_given (Some x) fault faults e = cc

head_saying : (before : List Line) (line : Line) (says : Option (Setting × Option ℕ)) → setting_in line.1 ≡ says → faults_of_setting (λ setting. is_some (given setting before)) line.0 says ≡ [] → head_of (before ++ line ∷ []) ≡ behind_saying (head_of before) line.0 says
head_saying before line None e r = cc
head_saying before line (Some (setting, None)) e r = cc
head_saying before line (Some (setting, Some n)) e r = head_given before line setting n e (not_given (given setting before) _ _ r)

head_further : (before : List Line) (line : Line) → head_line_faults before line ≡ [] → head_of (before ++ line ∷ []) ≡ behind_line (head_of before) line
head_further before line r =
    elim (is_skipped line.1) as (λ t. is_skipped line.1 ≡ t → cond t [] (faults_of_setting (λ setting. is_some (given setting before)) line.0 (setting_in line.1)) ≡ [] → head_of (before ++ line ∷ []) ≡ cond t (head_of before) (behind_saying (head_of before) line.0 (setting_in line.1))) [
      | true ↦ λ t r. head_same before line (skipped_setting line.1 t)
      | false ↦ λ t r. head_saying before line (setting_in line.1) refl r
    ] refl r

-- some lines of a text were taken as its head, so many, and are right; these are left
pub record HeadSoFar (all left : List Line) (taken : ℕ) (head : Head) : Type 0 where
  pub before : List Line
  pub whole : all ≡ before ++ left
  pub plain : ArePlain before
  pub right : faults_in head_line_faults [] before ≡ []
  pub same : head ≡ head_of before
  pub count : taken ≡ length before

-- one more line is taken
pub head_on : (all lines left : List Line) (taken : ℕ) (head next : Head) (line : Line) → lines ≡ line ∷ left → HeadSoFar all lines taken head → is_event_line line.1 ≡ false → setting_faults (has head) line ≡ [] → next ≡ behind_line head line → HeadSoFar all left (taken + 1) next
head_on all lines left taken head next line front so_far plain right new =
    let judged : setting_faults (has head) line ≡ head_line_faults so_far.before line = ap (λ (it : Head). setting_faults (has it) line) so_far.same ∙ same_faults so_far.before line in
    let here : head_line_faults so_far.before line ≡ [] = sym judged ∙ right in
    record {
      before = so_far.before ++ line ∷ [];
      whole = so_far.whole ∙ ap (λ (ls : List Line). so_far.before ++ ls) front ∙ sym (append_assoc so_far.before (line ∷ []) left);
      plain = plain_further so_far.before line so_far.plain plain;
      right = right_further head_line_faults so_far.before line so_far.right here;
      same = new ∙ ap (λ (it : Head). behind_line it line) so_far.same ∙ sym (head_further so_far.before line here);
      count = ap (λ n. n + 1) so_far.count ∙ sym (length-append so_far.before (line ∷ []));
    }

-- the first fault of the next line is that of the head
pub head_stops : (all lines left : List Line) (taken : ℕ) (head : Head) (line : Line) (fault : ScheduleFault) → lines ≡ line ∷ left → HeadSoFar all lines taken head → is_event_line line.1 ≡ false → IsFirst fault (setting_faults (has head) line) → IsFirst fault (faults_in head_line_faults [] (head_lines all))
head_stops all lines left taken head line fault front so_far plain e =
    let judged : setting_faults (has head) line ≡ head_line_faults so_far.before line = ap (λ (it : Head). setting_faults (has it) line) so_far.same ∙ same_faults so_far.before line in
    let here : head_lines (line ∷ left) ≡ line ∷ head_lines left = rw plain in
    let whole : head_lines all ≡ so_far.before ++ line ∷ head_lines left = ap head_lines so_far.whole ∙ head_lines-append so_far.before lines so_far.plain ∙ ap (λ (ls : List Line). so_far.before ++ head_lines ls) front ∙ ap (λ (ls : List Line). so_far.before ++ ls) here in
    subst (λ (ls : List Line). IsFirst fault (faults_in head_line_faults [] ls)) (sym whole)
    (fault_further head_line_faults fault so_far.before line (head_lines left) so_far.right (subst (IsFirst fault) judged e))

-- no line is left that is of the head
pub head_done : (all left : List Line) (taken : ℕ) (head : Head) → HeadSoFar all left taken head → head_lines left ≡ [] → HeadRead all left taken head
head_done all left taken head so_far none =
    let lines : head_lines all ≡ so_far.before = ap head_lines so_far.whole ∙ head_lines-append so_far.before left so_far.plain ∙ ap (λ (ls : List Line). so_far.before ++ ls) none ∙ append-nil so_far.before in
    record {
      right = ap (faults_in head_line_faults []) lines ∙ so_far.right;
      same = so_far.same ∙ ap head_of (sym lines);
      others = sym (no_head left none) ∙ sym (event_lines-append so_far.before left so_far.plain) ∙ ap event_lines (sym so_far.whole);
      count = so_far.count ∙ ap length (sym lines);
    }
