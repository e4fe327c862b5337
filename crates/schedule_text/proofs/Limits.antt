-- What the schedule of a text without faults keeps.
use Rattle.std.proofs.Common.{◌≡◌, ℕ, ◌+◌, ◌<◌, ◌≤◌, Bool, true, false, not, List, [], ◌∷◌, ◌++◌, Option, None, Some, refl, sym, ap, ◌∙◌, subst, cond, length, min, is_none, is_some, nat_le, nat_lt, arith, append_assoc, append-nil, length-append}
use Rattle.std.specs.List.{AllByRecursion, cons_option, filter_map}
use Rattle.std.specs.Str.{bytes_eq}
use Rattle.std.proofs.lemmas.Bool.{and_parts, leb-false, leb-true, ltb-false, ltb-true, or_parts}
use Rattle.schedule_text.specs.declared.head.Given.{Given}
use Rattle.schedule_text.specs.declared.schedule.Event.{Event}
use Rattle.schedule_text.specs.declared.schedule.Schedule.{Schedule}
use Rattle.schedule_text.specs.declared.words.EventKind.{EventKind}
use Rattle.schedule_text.specs.declared.words.EventKind.TheVariants.{Done, Fail, Lose, Back, Wipe, Busy, Idle, Round}
use Rattle.schedule_text.specs.declared.words.Setting.{Setting}
use Rattle.schedule_text.specs.declared.words.Setting.TheVariants.{Nodes, Slots, Copies, Block, Attempts, Keep}
use Rattle.schedule_text.specs.Faults.{Fault, copies_faults, event_line_faults, fault_if, faults_in, faults_of_event, faults_of_setting, given_or, head_line_faults, number_or, setting_faults, whole_faults}
use Rattle.schedule_text.specs.Lines.{Line, event_in, event_lines, event_said, events_in, first, given, given_in, head_lines, is_skipped, lines_behind, number_for, setting_in}
use Rattle.schedule_text.specs.Schedules.{IsTextOf, IsUpTo, IsWithin, KeepsLimits, schedule_of}
use Rattle.schedule_text.specs.Words.{event_of, in_range, most, setting_word}
use Rattle.schedule_text.proofs.Events.{events_further}
use Rattle.schedule_text.proofs.FirstFaults.{none_before, none_behind}
use Rattle.schedule_text.proofs.Pieces.{skipped_event, skipped_setting}

no_fault : (b : Bool) (fault : Fault) → fault_if b fault ≡ [] → b ≡ false
no_fault true fault e = cc
no_fault false fault e = refl

-- ---- settings

same_most : (a b : Setting) → bytes_eq (setting_word a) (setting_word b) ≡ true → most a ≡ most b
same_most Nodes Nodes e = refl
same_most Slots Slots e = refl
same_most Copies Copies e = refl
same_most Block Block e = refl
same_most Attempts Attempts e = refl
same_most Keep Keep e = refl
same_most a b e = cc

-- what a line without faults gives to a setting is in its range
said_right : (is_given : Setting → Bool) (setting : Setting) (n : ℕ) (says : Option (Setting × Option ℕ)) (it : Given) → faults_of_setting is_given n says ≡ [] → number_for setting n says ≡ Some it → IsUpTo (most setting) it.number
said_right is_given setting n None it r e = cc
said_right is_given setting n (Some (other, None)) it r e = cc
said_right is_given setting n (Some (other, Some number)) it r e =
    let range = or_parts (nat_lt number 1) (nat_lt (most other) number) (no_fault _ _ (none_behind (fault_if (is_given other) _) _ r)) in
    let low = ltb-false number 1 range.0 in
    let high = ltb-false (most other) number range.1 in
    elim (bytes_eq (setting_word other) (setting_word setting)) as (λ t. bytes_eq (setting_word other) (setting_word setting) ≡ t → cond t (Some (given_in n number)) None ≡ Some it → IsUpTo (most setting) it.number) [
      | true ↦ λ t e.
          let same = same_most other setting t in
          let is : given_in n number ≡ it = cc in
          subst (λ (g : Given). IsUpTo (most setting) g.number) is (omega arith, omega arith)
      | false ↦ λ t e. cc
    ] refl e

line_right : (is_given : Setting → Bool) (setting : Setting) (line : Line) (it : Given) → setting_faults is_given line ≡ [] → number_for setting line.0 (setting_in line.1) ≡ Some it → IsUpTo (most setting) it.number
line_right is_given setting line it r e =
    elim (is_skipped line.1) as (λ t. is_skipped line.1 ≡ t → cond t [] (faults_of_setting is_given line.0 (setting_in line.1)) ≡ [] → IsUpTo (most setting) it.number) [
      | true ↦ λ t r. let none : number_for setting line.0 (setting_in line.1) ≡ None = ap (number_for setting line.0) (skipped_setting line.1 t) in cc
      | false ↦ λ t r. said_right is_given setting line.0 (setting_in line.1) it r e
    ] refl r

-- what lines without faults give to a setting is in its range
given_right : (setting : Setting) (before lines : List Line) (it : Given) → faults_in head_line_faults before lines ≡ [] → given setting lines ≡ Some it → IsUpTo (most setting) it.number
given_right setting before [] it r e = cc
given_right setting before (line ∷ lines) it r e =
    let says = number_for setting line.0 (setting_in line.1) in
    elim says as (λ o. says ≡ o → first (cons_option o (filter_map (λ (other : Line). number_for setting other.0 (setting_in other.1)) lines)) ≡ Some it → IsUpTo (most setting) it.number) [
      | None ↦ λ t e. given_right setting (before ++ line ∷ []) lines it (none_behind (head_line_faults before line) _ r) e
      | Some g ↦ λ t e. line_right (λ other. is_some (given other before)) setting line it (none_before (head_line_faults before line) _ r) (t ∙ e)
    ] refl e

-- a setting that need not be given is in its range, if what stands for it is
number_right : (setting : Setting) (otherwise : ℕ) (head : List Line) → faults_in head_line_faults [] head ≡ [] → IsUpTo (most setting) otherwise → IsUpTo (most setting) (number_or setting otherwise head)
number_right setting otherwise head r o =
    elim (given setting head) as (λ g. given setting head ≡ g → IsUpTo (most setting) (given_or g otherwise)) [
      | None ↦ λ e. o
      | Some it ↦ λ e. given_right setting [] head it r e
    ] refl

-- nodes are given, and no more copies than these
nodes_right : (n : ℕ) (head : List Line) → faults_in head_line_faults [] head ≡ [] → whole_faults n (given Nodes head) (given Copies head) ≡ [] → IsUpTo 64 (number_or Nodes 0 head)
nodes_right n head r w =
    elim (given Nodes head) as (λ g. given Nodes head ≡ g → whole_faults n g (given Copies head) ≡ [] → IsUpTo 64 (given_or g 0)) [
      | None ↦ λ e w. cc
      | Some it ↦ λ e w. given_right Nodes [] head it r e
    ] refl w

spread_right : (nodes : ℕ) (copies : Option Given) → copies_faults nodes copies ≡ [] → given_or copies (min 3 nodes) ≤ nodes
spread_right nodes None e = omega arith
spread_right nodes (Some it) e = let l = ltb-false nodes it.number (no_fault _ _ e) in omega arith

-- ---- events

in_range_within : (nodes : ℕ) (kind : EventKind) (n : ℕ) → in_range nodes kind n ≡ true → IsWithin nodes (event_of kind n)
in_range_within nodes Done n e = ltb-true n nodes e
in_range_within nodes Fail n e = ltb-true n nodes e
in_range_within nodes Lose n e = ltb-true n nodes e
in_range_within nodes Back n e = ltb-true n nodes e
in_range_within nodes Wipe n e = ltb-true n nodes e
in_range_within nodes Busy n e = ltb-true n nodes e
in_range_within nodes Idle n e = ltb-true n nodes e
in_range_within nodes Round n e = let parts = and_parts (nat_le 1 n) (nat_le n 10000) e in (leb-true 1 n parts.0, leb-true n 10000 parts.1)

is_true : (b : Bool) → not b ≡ false → b ≡ true
is_true true e = refl
is_true false e = cc

-- an event of a line without faults, with room for it
abbrev IsRight : ℕ → ℕ → Event → Type 0
IsRight nodes before event = IsWithin nodes event × (before < 1000000)

event_right : (nodes before n : ℕ) (says : Option (EventKind × Option ℕ)) (event : Event) → faults_of_event nodes before n says ≡ [] → event_said says ≡ Some event → IsRight nodes before event
event_right nodes before n None event r e = cc
event_right nodes before n (Some (kind, None)) event r e = cc
event_right nodes before n (Some (kind, Some number)) event r e =
    let parts = or_parts (not (in_range nodes kind number)) (nat_le 1000000 before) (no_fault _ _ r) in
    let is : event_of kind number ≡ event = cc in
    (subst (IsWithin nodes) is (in_range_within nodes kind number (is_true _ parts.0)), leb-false 1000000 before parts.1)

event_line_right : (nodes : ℕ) (before : List Line) (line : Line) (event : Event) → event_line_faults nodes before line ≡ [] → event_said (event_in line.1) ≡ Some event → IsRight nodes (length (events_in before)) event
event_line_right nodes before line event r e =
    elim (is_skipped line.1) as (λ t. is_skipped line.1 ≡ t → cond t [] (faults_of_event nodes (length (events_in before)) line.0 (event_in line.1)) ≡ [] → IsRight nodes (length (events_in before)) event) [
      | true ↦ λ t r. let none : event_said (event_in line.1) ≡ None = ap event_said (skipped_event line.1 t) in absurd (let x : ◌≡◌ {A = Option Event} None (Some event) = sym none ∙ e in cc)
      | false ↦ λ t r. event_right nodes (length (events_in before)) line.0 (event_in line.1) event r e
    ] refl r

events_within : (nodes : ℕ) (before lines : List Line) → faults_in (event_line_faults nodes) before lines ≡ [] → AllByRecursion (IsWithin nodes) (events_in lines)
events_within nodes before [] r = tt
events_within nodes before (line ∷ lines) r =
    let rest = events_within nodes (before ++ line ∷ []) lines (none_behind (event_line_faults nodes before line) _ r) in
    elim (event_said (event_in line.1)) as (λ o. event_said (event_in line.1) ≡ o → AllByRecursion (IsWithin nodes) (cons_option o (events_in lines))) [
      | None ↦ λ e. rest
      | Some event ↦ λ e. ((event_line_right nodes before line event (none_before (event_line_faults nodes before line) _ r) e).0, rest)
    ] refl

-- one more line adds at most one event, and only where there is room
room_further : (nodes : ℕ) (before : List Line) (line : Line) → event_line_faults nodes before line ≡ [] → length (events_in before) ≤ 1000000 → length (events_in (before ++ line ∷ [])) ≤ 1000000
room_further nodes before line r few =
    elim (event_said (event_in line.1)) as (λ o. event_said (event_in line.1) ≡ o → length (events_in before ++ cons_option o []) ≤ 1000000 → length (events_in (before ++ line ∷ [])) ≤ 1000000) [
      | None ↦ λ e l. rw (events_further before line, e) l
      | Some event ↦ λ e l. rw (events_further before line, e) l
    ] refl (room (event_said (event_in line.1)) refl)
  where
    room : (o : Option Event) → event_said (event_in line.1) ≡ o → length (events_in before ++ cons_option o []) ≤ 1000000
    room None e = omega (arith, length-append (events_in before) [])
    room (Some event) e =
        let right = event_line_right nodes before line event r e in
        omega (arith, right.1, length-append (events_in before) (event ∷ []))

few_events : (nodes : ℕ) (before lines : List Line) → faults_in (event_line_faults nodes) before lines ≡ [] → length (events_in before) ≤ 1000000 → length (events_in (before ++ lines)) ≤ 1000000
few_events nodes before [] r few = subst (λ (ls : List Line). length (events_in ls) ≤ 1000000) (sym (append-nil before)) few
few_events nodes before (line ∷ lines) r few =
    let here = none_before (event_line_faults nodes before line) _ r in
    let later = few_events nodes (before ++ line ∷ []) lines (none_behind (event_line_faults nodes before line) _ r) (room_further nodes before line here few) in
    subst (λ (ls : List Line). length (events_in ls) ≤ 1000000) (append_assoc before (line ∷ []) lines) later

-- a schedule of lines without faults keeps the limits
parts_keep : (head others : List Line) (n : ℕ) → faults_in head_line_faults [] head ≡ [] → whole_faults n (given Nodes head) (given Copies head) ≡ [] → faults_in (event_line_faults (number_or Nodes 0 head)) [] others ≡ [] → KeepsLimits (schedule_of head others)
parts_keep head others n r w e =
    let nodes = nodes_right n head r w in
    record {
      nodes = nodes;
      slots = number_right Slots 1 head r (omega arith, omega arith);
      copies = number_right Copies (min 3 (number_or Nodes 0 head)) head r (omega arith, omega arith);
      spread = spread_right (number_or Nodes 0 head) (given Copies head) (none_behind (fault_if (is_none (given Nodes head)) _) _ w);
      block = number_right Block 10000 head r (omega arith, omega arith);
      attempts = number_right Attempts 4 head r (omega arith, omega arith);
      keep = number_right Keep 1 head r (omega arith, omega arith);
      events = events_within (number_or Nodes 0 head) [] others e;
      few = few_events (number_or Nodes 0 head) [] others e (omega arith);
    }

-- so does that of a text
pub keeps_limits : (text : List ℕ) (schedule : Schedule) → IsTextOf text schedule → KeepsLimits schedule
keeps_limits text schedule it =
    let lines = lines_behind 0 text in
    let head = head_lines lines in
    let n = length head + 1 in
    let two = none_before (faults_in head_line_faults [] head ++ whole_faults n (given Nodes head) (given Copies head)) _ it.right in
    subst KeepsLimits (sym it.says)
    (parts_keep head (event_lines lines) n (none_before (faults_in head_line_faults [] head) _ two) (none_behind (faults_in head_line_faults [] head) _ two)
    (none_behind (faults_in head_line_faults [] head ++ whole_faults n (given Nodes head) (given Copies head)) _ it.right))
