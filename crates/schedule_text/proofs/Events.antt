-- The events of lines, line by line.
use Rattle.std.proofs.Common.{◌≡◌, ℕ, List, [], ◌∷◌, ◌++◌, sym, ap, ◌∙◌, subst, length, append_assoc, append-nil}
use Rattle.std.specs.List.{cons_option}
use Rattle.std.proofs.lemmas.List.Elements.{filter_map-append}
use Rattle.schedule_text.specs.declared.fault.ScheduleFault.{ScheduleFault}
use Rattle.schedule_text.specs.declared.schedule.Event.{Event}
use Rattle.schedule_text.specs.Faults.{IsFirst, event_faults, event_line_faults, faults_in}
use Rattle.schedule_text.specs.Lines.{Line, event_in, event_said, events_in}
use Rattle.schedule_text.specs.steps.Heads.{EventsRead}
use Rattle.schedule_text.proofs.FirstFaults.{fault_further, right_further}

pub events_further : (before : List Line) (line : Line) → events_in (before ++ line ∷ []) ≡ events_in before ++ cons_option (event_said (event_in line.1)) []
events_further before line = filter_map-append (λ (it : Line). event_said (event_in it.1)) before (line ∷ [])

-- some lines of these were taken as events, and are right; these are left
pub record EventsSoFar (nodes : ℕ) (all left : List Line) (events : List Event) : Type 0 where
  pub before : List Line
  pub whole : all ≡ before ++ left
  pub right : faults_in (event_line_faults nodes) [] before ≡ []
  pub same : events ≡ events_in before

-- one more line is taken
pub events_on : (nodes : ℕ) (all lines left : List Line) (events next : List Event) (line : Line) → lines ≡ line ∷ left → EventsSoFar nodes all lines events → event_faults nodes (length events) line ≡ [] → next ≡ events ++ cons_option (event_said (event_in line.1)) [] → EventsSoFar nodes all left next
events_on nodes all lines left events next line front so_far right new =
    let judged : event_faults nodes (length events) line ≡ event_line_faults nodes so_far.before line = ap (λ (it : List Event). event_faults nodes (length it) line) so_far.same in
    record {
      before = so_far.before ++ line ∷ [];
      whole = so_far.whole ∙ ap (λ (ls : List Line). so_far.before ++ ls) front ∙ sym (append_assoc so_far.before (line ∷ []) left);
      right = right_further (event_line_faults nodes) so_far.before line so_far.right (sym judged ∙ right);
      same = new ∙ ap (λ (it : List Event). it ++ cons_option (event_said (event_in line.1)) []) so_far.same ∙ sym (events_further so_far.before line);
    }

-- the first fault of the next line is that of all
pub events_stop : (nodes : ℕ) (all lines left : List Line) (events : List Event) (line : Line) (fault : ScheduleFault) → lines ≡ line ∷ left → EventsSoFar nodes all lines events → IsFirst fault (event_faults nodes (length events) line) → IsFirst fault (faults_in (event_line_faults nodes) [] all)
events_stop nodes all lines left events line fault front so_far e =
    let judged : event_faults nodes (length events) line ≡ event_line_faults nodes so_far.before line = ap (λ (it : List Event). event_faults nodes (length it) line) so_far.same in
    subst (λ (ls : List Line). IsFirst fault (faults_in (event_line_faults nodes) [] ls)) (sym (so_far.whole ∙ ap (λ (ls : List Line). so_far.before ++ ls) front))
    (fault_further (event_line_faults nodes) fault so_far.before line left so_far.right (subst (IsFirst fault) judged e))

-- no line is left
pub events_done : (nodes : ℕ) (all left : List Line) (events : List Event) → EventsSoFar nodes all left events → left ≡ [] → EventsRead nodes all events
events_done nodes all left events so_far none =
    let lines : all ≡ so_far.before = so_far.whole ∙ ap (λ (ls : List Line). so_far.before ++ ls) none ∙ append-nil so_far.before in
    record {
      right = ap (faults_in (event_line_faults nodes) []) lines ∙ so_far.right;
      same = so_far.same ∙ ap events_in (sym lines);
    }
