-- The input comes to one status.
use Rattle.std.proofs.Common.{◌≡◌, ℕ, List, [], ◌∷◌, ◌++◌, Option, None, Some, Err, refl, sym, ap, subst, ◌∙◌, inl, inr}
use Rattle.std.specs.FinMap as map
use Rattle.hal_base.specs.declared.record.Record.{Record}
use Rattle.hal_base.specs.Lines.{StandsFor}
use Rattle.hal_base.proofs.ReadingLaws.{only_table}
use Rattle.hal_outside.specs.Told.{FileMap}
use Rattle.program_sketch.specs.declared.fault.What.{What}
use Rattle.loop_program.specs.Programs.{HasWrong, IsTextOfProgram}
use Rattle.loop_program.specs.Whole.{Whole}
use Rattle.haloop_run.specs.Words.{Asked}
use Rattle.haloop_run.specs.Inputs.{Outcome, complete, absent, bad_program, bad_schedule, not_built, bad_table, ComesTo, HasProgram, HasSchedule, HasScheduleAt, HasTable, HaveTables, Listed, ReachesFile, ReachesSchedule, ReachesTable, tables_of}
use Rattle.run_laws.specs.WithoutLoss.{AreQuiet}
use Rattle.schedule_text.proofs.Outcomes.{one_outcome}
use Rattle.schedule_text.specs.Faults.{HasFault}
use Rattle.schedule_text.specs.Schedules.{IsTextOf}
use Rattle.schedule_text.specs.declared.fault.ScheduleFault.TheVariants.{At}
use Rattle.schedule_text.specs.declared.fault.ScheduleWhat.{ScheduleWhat}
use Rattle.schedule_text.specs.declared.schedule.Schedule.{Schedule}
use Rattle.haloop_run.specs.Lines.{status_of}
use Rattle.haloop_run.specs.steps.Inputs.{IsProgramOf, IsRefusedSchedule, Judged, NoProgram, NoSchedule, NoTable, StopsAtTable}

-- ---- files that are there, and others

there_once : (o : Option (List ℕ)) (a b : List ℕ) → o ≡ Some a → o ≡ Some b → b ≡ a
there_once o a b d e = cc

not_there : (o : Option (List ℕ)) (a : List ℕ) → o ≡ None → o ≡ Some a → ⊥
not_there o a d e = cc

asked_once : (o : Option (List ℕ)) (a b : List ℕ) → o ≡ Some a → o ≡ Some b → b ≡ a
asked_once o a b d e = cc

-- the file of the schedule that is asked for, where it is accepted
schedule_at : (files : FileMap) (asked : Option (List ℕ)) (name : List ℕ) (it : Option Schedule) → asked ≡ Some name → HasSchedule files asked it → (schedule : Schedule) × HasScheduleAt files name schedule
schedule_at files asked name it e h = go it (subst (λ (o : Option (List ℕ)). HasSchedule files o it) e h)
  where
    go : (it : Option Schedule) → HasSchedule files (Some name) it → (schedule : Schedule) × HasScheduleAt files name schedule
    go None h = absurd h
    go (Some schedule) h = (schedule, h)

-- an accepted text has no fault, and says one schedule
not_faulty : (text : List ℕ) (schedule : Schedule) (line : ℕ) (what : ScheduleWhat) → IsTextOf text schedule → HasFault text (At line what) → ⊥
not_faulty text schedule line what t f = (one_outcome text).not_both schedule line what t f

-- where something is lost in the schedule of a text, no schedule of it is accepted
not_quiet : (text : List ℕ) (schedule other : Schedule) → IsTextOf text schedule → (AreQuiet schedule.events → ⊥) → IsTextOf text other → AreQuiet other.events → ⊥
not_quiet text schedule other t n o q = n (subst (λ (s : Schedule). AreQuiet s.events) ((one_outcome text).one_schedule other schedule o t) q)

-- ---- tables that are not accepted

-- the file of this table stands for no records
abbrev StandsForNone : FileMap → Listed → Type 0
StandsForNone files table = (rows : List Record) → HasTable files table rows → ⊥

no_table_stands : (files : FileMap) (table : Listed) (it : Outcome) → NoTable table files it → StandsForNone files table
no_table_stands files table it (inl n) rows h = not_there (map.get files table.file) h.bytes n.0 h.there
no_table_stands files table it (inr n) rows h =
    n.4 (only_table table.schema n.0 (Err n.2) tt n.3 rows (subst (λ (bytes : List ℕ). StandsFor table.schema bytes rows) (there_once (map.get files table.file) n.0 h.bytes n.1 h.there) h.stands))

-- where one table is not accepted, not all are
not_all : (files : FileMap) (before behind : List Listed) (table : Listed) (rows : List (List Record)) → StandsForNone files table → HaveTables files (before ++ table ∷ behind) rows → ⊥
not_all files [] behind table [] s h = h
not_all files [] behind table (r ∷ rows) s h = s r h.0
not_all files (b ∷ before) behind table [] s h = h
not_all files (b ∷ before) behind table (r ∷ rows) s h = not_all files before behind table rows s h.1

not_empty : (table : Listed) (behind : List Listed) → [] ≡ table ∷ behind → ⊥
not_empty table behind e = cc

-- one table is the first that is not accepted
first_once : (files : FileMap) (before behind before' behind' : List Listed) (table table' : Listed) (rows rows' : List (List Record)) →
    before ++ table ∷ behind ≡ before' ++ table' ∷ behind' → HaveTables files before rows → StandsForNone files table → HaveTables files before' rows' → StandsForNone files table' → table' ≡ table
first_once files [] behind [] behind' table table' rows rows' e h s h' s' = cc
first_once files [] behind (b' ∷ before') behind' table table' rows [] e h s h' s' = absurd h'
first_once files [] behind (b' ∷ before') behind' table table' rows (r' ∷ rows') e h s h' s' =
    let same : b' ≡ table = cc in absurd (s r' (subst (λ (t : Listed). HasTable files t r') same h'.0))
first_once files (b ∷ before) behind [] behind' table table' [] rows' e h s h' s' = absurd h
first_once files (b ∷ before) behind [] behind' table table' (r ∷ rows) rows' e h s h' s' =
    let same : b ≡ table' = cc in absurd (s' r (subst (λ (t : Listed). HasTable files t r) same h.0))
first_once files (b ∷ before) behind (b' ∷ before') behind' table table' [] rows' e h s h' s' = absurd h
first_once files (b ∷ before) behind (b' ∷ before') behind' table table' (r ∷ rows) [] e h s h' s' = absurd h'
first_once files (b ∷ before) behind (b' ∷ before') behind' table table' (r ∷ rows) (r' ∷ rows') e h s h' s' =
    let rest : before ++ table ∷ behind ≡ before' ++ table' ∷ behind' = cc in first_once files before behind before' behind' table table' rows rows' rest h.1 s h'.1 s'

module _ (asked : Asked) (files : FileMap) where
  -- ---- a program that is not accepted

  abbrev There : Option (List ℕ) → Type 0
  There o = map.get files asked.program ≡ o

  no_program_file : There None → (other : Outcome) → ComesTo files asked other → status_of other ≡ 11
  no_program_file n (complete program schedule tables) c = absurd (not_there (map.get files asked.program) c.0.text n c.0.there)
  no_program_file n (absent name) c = refl
  no_program_file n (bad_program line what) c = absurd (not_there (map.get files asked.program) c.0 n c.1)
  no_program_file n (bad_schedule line what) c = absurd (not_there (map.get files asked.program) c.1.has_program.text n c.1.has_program.there)
  no_program_file n not_built c = absurd (not_there (map.get files asked.program) c.1.has_program.text n c.1.has_program.there)
  no_program_file n (bad_table name what) c = absurd (not_there (map.get files asked.program) c.1.has_program.text n c.1.has_program.there)

  module _ (text : List ℕ) (there : There (Some text)) (none : (program : Whole) → IsTextOfProgram text program → ⊥) where
    no_program_of : (program : Whole) → HasProgram files asked.program program → ⊥
    no_program_of program h = none program (subst (λ (t : List ℕ). IsTextOfProgram t program) (there_once (map.get files asked.program) text h.text there h.there) h.is_text)

    not_reached : (name : List ℕ) → ReachesFile files asked name → map.get files name ≡ None → ⊥
    not_reached name (inl e) n = not_there (map.get files asked.program) text (subst (λ (x : List ℕ). map.get files x ≡ None) e n) there
    not_reached name (inr (inl r)) n = no_program_of r.program r.has_program
    not_reached name (inr (inr r)) n = no_program_of r.1.program r.1.has_program

    wrong_text : (other : Outcome) → ComesTo files asked other → status_of other ≡ 2
    wrong_text (complete program schedule tables) c = absurd (no_program_of program c.0)
    wrong_text (absent name) c = absurd (not_reached name c.0 c.1)
    wrong_text (bad_program line what) c = refl
    wrong_text (bad_schedule line what) c = absurd (no_program_of c.1.program c.1.has_program)
    wrong_text not_built c = absurd (no_program_of c.1.program c.1.has_program)
    wrong_text (bad_table name what) c = absurd (no_program_of c.1.program c.1.has_program)

  pub judged_program : (it : Outcome) → NoProgram asked.program files it → Judged asked files it
  judged_program it (inl n) = subst (λ (o : Outcome). Judged asked files o) (sym n.1) (record { comes = (inl refl, n.0); only = no_program_file n.0 })
  judged_program it (inr n) = subst (λ (o : Outcome). Judged asked files o) (sym n.5) (record { comes = (n.0, n.1, n.4.0); only = wrong_text n.0 n.1 n.4.1 })

  -- ---- a program that is accepted

  module _ (program : Whole) (is : IsProgramOf asked.program program files) where
    has_program : HasProgram files asked.program program
    has_program = record { text = is.text; there = is.there; is_text = is.just.is }

    same_text : (text : List ℕ) → There (Some text) → text ≡ is.text
    same_text text t = there_once (map.get files asked.program) is.text text is.there t

    one_program : (other : Whole) → HasProgram files asked.program other → other ≡ program
    one_program other h = is.just.only other (subst (λ (t : List ℕ). IsTextOfProgram t other) (same_text h.text h.there) h.is_text)

    none_wrong : (line : ℕ) (what : What) (text : List ℕ) → There (Some text) → HasWrong text line what → ⊥
    none_wrong line what text t w = is.just.right line what (subst (λ (x : List ℕ). HasWrong x line what) (same_text text t) w)

    not_the_program : (name : List ℕ) → name ≡ asked.program → map.get files name ≡ None → ⊥
    not_the_program name e n = not_there (map.get files asked.program) is.text (subst (λ (x : List ℕ). map.get files x ≡ None) e n) is.there

    -- ---- a schedule that is not accepted

    module _ (name : List ℕ) (e : asked.schedule ≡ Some name) where
      reaches : ReachesSchedule files asked name
      reaches = record { program = program; has_program = has_program; is_asked = e }

      at_name : (other : List ℕ) → asked.schedule ≡ Some other → other ≡ name
      at_name other d = asked_once asked.schedule name other e d

      accepted_at : (it : Option Schedule) → HasSchedule files asked.schedule it → (schedule : Schedule) × HasScheduleAt files name schedule
      accepted_at it h = schedule_at files asked.schedule name it e h

      no_schedule_file : map.get files name ≡ None → (other : Outcome) → ComesTo files asked other → status_of other ≡ 11
      no_schedule_file n other c = go other c
        where
          none_accepted : (it : Option Schedule) → HasSchedule files asked.schedule it → ⊥
          none_accepted it h = let s = accepted_at it h in not_there (map.get files name) s.1.text n s.1.there

          none_there : (at : List ℕ) → asked.schedule ≡ Some at → (text : List ℕ) → map.get files at ≡ Some text → ⊥
          none_there at r text t = not_there (map.get files name) text n (subst (λ (x : List ℕ). map.get files x ≡ Some text) (at_name at r) t)

          go : (other : Outcome) → ComesTo files asked other → status_of other ≡ 11
          go (complete program schedule tables) c = absurd (none_accepted schedule c.1)
          go (absent other) c = refl
          go (bad_program line what) c = absurd (none_wrong line what c.0 c.1 c.2)
          go (bad_schedule line what) c = absurd (none_there c.0 c.1.is_asked c.2 c.3)
          go not_built c = absurd (none_there c.0 c.1.is_asked c.2 c.3)
          go (bad_table other what) c = absurd (none_accepted c.1.schedule c.1.has_schedule)

      module _ (text : List ℕ) (there : map.get files name ≡ Some text) where
        -- the text of a schedule that is reached or accepted is this one
        this_text : (at : List ℕ) → asked.schedule ≡ Some at → (other : List ℕ) → map.get files at ≡ Some other → other ≡ text
        this_text at r other t = there_once (map.get files name) text other there (subst (λ (x : List ℕ). map.get files x ≡ Some other) (at_name at r) t)

        accepted_text : (it : Option Schedule) → HasSchedule files asked.schedule it → (schedule : Schedule) × IsTextOf text schedule × AreQuiet schedule.events
        accepted_text it h =
            let s = accepted_at it h in
            (s.0, subst (λ (x : List ℕ). IsTextOf x s.0) (there_once (map.get files name) text s.1.text there s.1.there) s.1.is_text, s.1.quiet)

        module _ (not_accepted : (it : Option Schedule) → HasSchedule files asked.schedule it → ⊥) where
          not_absent : (other : List ℕ) → ReachesFile files asked other → map.get files other ≡ None → ⊥
          not_absent other (inl p) n = not_the_program other p n
          not_absent other (inr (inl r)) n = not_there (map.get files name) text (subst (λ (x : List ℕ). map.get files x ≡ None) (at_name other r.is_asked) n) there
          not_absent other (inr (inr r)) n = not_accepted r.1.schedule r.1.has_schedule

        faulty_schedule : (line : ℕ) (what : ScheduleWhat) → HasFault text (At line what) → (other : Outcome) → ComesTo files asked other → status_of other ≡ 4
        faulty_schedule line what f other c = go other c
          where
            none : (it : Option Schedule) → HasSchedule files asked.schedule it → ⊥
            none it h = let s = accepted_text it h in not_faulty text s.0 line what s.1 f

            go : (other : Outcome) → ComesTo files asked other → status_of other ≡ 4
            go (complete program schedule tables) c = absurd (none schedule c.1)
            go (absent other) c = absurd (not_absent none other c.0 c.1)
            go (bad_program line what) c = absurd (none_wrong line what c.0 c.1 c.2)
            go (bad_schedule line what) c = refl
            go not_built c = absurd (not_faulty text c.4 line what (subst (λ (x : List ℕ). IsTextOf x c.4) (this_text c.0 c.1.is_asked c.2 c.3) c.5) f)
            go (bad_table other what) c = absurd (none c.1.schedule c.1.has_schedule)

        losing_schedule : (schedule : Schedule) → IsTextOf text schedule → (AreQuiet schedule.events → ⊥) → (other : Outcome) → ComesTo files asked other → status_of other ≡ 12
        losing_schedule schedule t q other c = go other c
          where
            none : (it : Option Schedule) → HasSchedule files asked.schedule it → ⊥
            none it h = let s = accepted_text it h in not_quiet text schedule s.0 t q s.1 s.2

            go : (other : Outcome) → ComesTo files asked other → status_of other ≡ 12
            go (complete program it tables) c = absurd (none it c.1)
            go (absent other) c = absurd (not_absent none other c.0 c.1)
            go (bad_program line what) c = absurd (none_wrong line what c.0 c.1 c.2)
            go (bad_schedule line what) c = absurd (not_faulty text schedule line what t (subst (λ (x : List ℕ). HasFault x (At line what)) (this_text c.0 c.1.is_asked c.2 c.3) c.4))
            go not_built c = refl
            go (bad_table other what) c = absurd (none c.1.schedule c.1.has_schedule)

        judged_refused : (it : Outcome) → IsRefusedSchedule text it → Judged asked files it
        judged_refused it (inl n) = subst (λ (o : Outcome). Judged asked files o) (sym n.3) (record { comes = (name, reaches, text, there, n.2); only = faulty_schedule n.0 n.1 n.2 })
        judged_refused it (inr n) = subst (λ (o : Outcome). Judged asked files o) (sym n.3) (record { comes = (name, reaches, text, there, n.0, n.1, n.2); only = losing_schedule n.0 n.1 n.2 })

      judged_other : (it : Outcome) → NoSchedule (Some name) files it → Judged asked files it
      judged_other it (inl n) = subst (λ (o : Outcome). Judged asked files o) (sym n.1) (record { comes = (inr (inl reaches), n.0); only = no_schedule_file n.0 })
      judged_other it (inr n) = judged_refused n.0 n.1 it n.2

    judged_asked : (it : Outcome) (o : Option (List ℕ)) → asked.schedule ≡ o → NoSchedule o files it → Judged asked files it
    judged_asked it None e n = absurd n
    judged_asked it (Some name) e n = judged_other name e it n

    pub judged_schedule : (it : Outcome) → NoSchedule asked.schedule files it → Judged asked files it
    judged_schedule it n = judged_asked it asked.schedule refl n

    -- ---- a table that is not accepted

    module _ (schedule : Option Schedule) (has : HasSchedule files asked.schedule schedule) where
      not_the_schedule : (name : List ℕ) → asked.schedule ≡ Some name → map.get files name ≡ None → ⊥
      not_the_schedule name e n = let s = schedule_at files asked.schedule name schedule e has in not_there (map.get files name) s.1.text n s.1.there

      -- the accepted schedule is that of this text
      read_here : (name text : List ℕ) → asked.schedule ≡ Some name → map.get files name ≡ Some text → (it : Schedule) × IsTextOf text it × AreQuiet it.events
      read_here name text e t =
          let s = schedule_at files asked.schedule name schedule e has in
          (s.0, subst (λ (x : List ℕ). IsTextOf x s.0) (there_once (map.get files name) text s.1.text t s.1.there) s.1.is_text, s.1.quiet)

      not_bad : (name text : List ℕ) (line : ℕ) (what : ScheduleWhat) → asked.schedule ≡ Some name → map.get files name ≡ Some text → HasFault text (At line what) → ⊥
      not_bad name text line what e t f = let s = read_here name text e t in not_faulty text s.0 line what s.1 f

      built : (name text : List ℕ) (it : Schedule) → asked.schedule ≡ Some name → map.get files name ≡ Some text → IsTextOf text it → (AreQuiet it.events → ⊥) → ⊥
      built name text it e t i q = let s = read_here name text e t in not_quiet text it s.0 i q s.1 s.2

      same_tables : (other : Whole) → HasProgram files asked.program other → tables_of other ≡ tables_of program
      same_tables other h = ap tables_of (one_program other h)

      module _ (it : Outcome) (stops : StopsAtTable program files it) where
        none : StandsForNone files stops.table
        none = no_table_stands files stops.table it stops.no_table

        at_table : ReachesTable files asked stops.table
        at_table = record {
          program = program;
          has_program = has_program;
          schedule = schedule;
          has_schedule = has;
          before = stops.before;
          behind = stops.behind;
          in_order = stops.in_order;
          rows = stops.rows;
          have_tables = stops.have_tables;
        }

        not_complete : (other : Whole) (tables : List (List Record)) → HasProgram files asked.program other → HaveTables files (tables_of other) tables → ⊥
        not_complete other tables p h = not_all files stops.before stops.behind stops.table tables none (subst (λ (ts : List Listed). HaveTables files ts tables) (same_tables other p ∙ stops.in_order) h)

        -- a table that is reached and not accepted is this one
        this_table : (table : Listed) → ReachesTable files asked table → StandsForNone files table → table ≡ stops.table
        this_table table r s = first_once files stops.before stops.behind r.before r.behind stops.table table stops.rows r.rows (sym stops.in_order ∙ sym (same_tables r.program r.has_program) ∙ r.in_order) stops.have_tables none r.have_tables s

        module _ (n : map.get files stops.table.file ≡ None) where
          absent_table : (other : Outcome) → ComesTo files asked other → status_of other ≡ 11
          absent_table (complete p it tables) c = absurd (not_complete p tables c.0 c.2)
          absent_table (absent name) c = refl
          absent_table (bad_program line what) c = absurd (none_wrong line what c.0 c.1 c.2)
          absent_table (bad_schedule line what) c = absurd (not_bad c.0 c.2 line what c.1.is_asked c.3 c.4)
          absent_table not_built c = absurd (built c.0 c.2 c.4 c.1.is_asked c.3 c.5 c.6)
          absent_table (bad_table name what) c =
              let same = this_table c.0 c.1 (no_table_stands files c.0 (bad_table c.0.name what) (inr (c.3, c.4, what, c.5, c.6, refl))) in
              absurd (not_there (map.get files stops.table.file) c.3 n (subst (λ (t : Listed). map.get files t.file ≡ Some c.3) same c.4))

        module _ (bytes : List ℕ) (there : map.get files stops.table.file ≡ Some bytes) where
          not_absent_file : (name : List ℕ) → ReachesFile files asked name → map.get files name ≡ None → ⊥
          not_absent_file name (inl e) n = not_the_program name e n
          not_absent_file name (inr (inl r)) n = not_the_schedule name r.is_asked n
          not_absent_file name (inr (inr r)) n =
              let away : map.get files r.0.file ≡ None = subst (λ (x : List ℕ). map.get files x ≡ None) r.2 n in
              let same = this_table r.0 r.1 (no_table_stands files r.0 (absent r.0.file) (inl (away, refl))) in
              not_there (map.get files stops.table.file) bytes (subst (λ (t : Listed). map.get files t.file ≡ None) same away) there

          faulty_table : (other : Outcome) → ComesTo files asked other → status_of other ≡ 3
          faulty_table (complete p it tables) c = absurd (not_complete p tables c.0 c.2)
          faulty_table (absent name) c = absurd (not_absent_file name c.0 c.1)
          faulty_table (bad_program line what) c = absurd (none_wrong line what c.0 c.1 c.2)
          faulty_table (bad_schedule line what) c = absurd (not_bad c.0 c.2 line what c.1.is_asked c.3 c.4)
          faulty_table not_built c = absurd (built c.0 c.2 c.4 c.1.is_asked c.3 c.5 c.6)
          faulty_table (bad_table name what) c = refl

        judged_by : NoTable stops.table files it → Judged asked files it
        judged_by (inl n) = subst (λ (o : Outcome). Judged asked files o) (sym n.1) (record { comes = (inr (inr (stops.table, at_table, refl)), n.0); only = absent_table n.0 })
        judged_by (inr n) = subst (λ (o : Outcome). Judged asked files o) (sym n.5) (record { comes = (stops.table, at_table, refl, n.0, n.1, n.3, n.4); only = faulty_table n.0 n.1 })

        pub judged_table : Judged asked files it
        judged_table = judged_by stops.no_table

      -- ---- all is accepted

      module _ (tables : List (List Record)) (have : HaveTables files (tables_of program) tables) where
        none_refused : (table : Listed) → ReachesTable files asked table → StandsForNone files table → ⊥
        none_refused table r s = not_all files r.before r.behind table tables s (subst (λ (ts : List Listed). HaveTables files ts tables) (sym (same_tables r.program r.has_program) ∙ r.in_order) have)

        none_absent : (name : List ℕ) → ReachesFile files asked name → map.get files name ≡ None → ⊥
        none_absent name (inl e) n = not_the_program name e n
        none_absent name (inr (inl r)) n = not_the_schedule name r.is_asked n
        none_absent name (inr (inr r)) n =
            none_refused r.0 r.1 (no_table_stands files r.0 (absent r.0.file) (inl (subst (λ (x : List ℕ). map.get files x ≡ None) r.2 n, refl)))

        is_complete : (other : Outcome) → ComesTo files asked other → status_of other ≡ 0
        is_complete (complete p it ts) c = refl
        is_complete (absent name) c = absurd (none_absent name c.0 c.1)
        is_complete (bad_program line what) c = absurd (none_wrong line what c.0 c.1 c.2)
        is_complete (bad_schedule line what) c = absurd (not_bad c.0 c.2 line what c.1.is_asked c.3 c.4)
        is_complete not_built c = absurd (built c.0 c.2 c.4 c.1.is_asked c.3 c.5 c.6)
        is_complete (bad_table name what) c = absurd (none_refused c.0 c.1 (no_table_stands files c.0 (bad_table c.0.name what) (inr (c.3, c.4, what, c.5, c.6, refl))))

        pub judged_complete : Judged asked files (complete program schedule tables)
        judged_complete = record { comes = (has_program, has, have); only = is_complete }
