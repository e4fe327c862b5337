-- Why a step stops, seen from a step around it.
use Rattle.std.proofs.Common.{◌∙◌, refl, arith}
use Rattle.hal_outside.specs.declared.files.Files.{Ghosts}
use Rattle.hal_outside.specs.declared.faults.FileFault.{FileFault}
use Rattle.hal_outside.specs.declared.faults.FileFault.TheVariants as file
use Rattle.hal_outside.specs.Told.{FileMap}
use Rattle.hal_outside.specs.Faults.{AtFileDevice}
use Rattle.hal_outside.specs.Calls.{AbsentsRose, FaultsRose, OnlyReads, Tells}
use Rattle.hal_outside.proofs.Counts.{rose_before}
use Rattle.haloop_run.specs.declared.fault.InputFault.{InputFault}
use Rattle.haloop_run.specs.declared.fault.InputFault.TheVariants.{Absent, BadProgram, BadSchedule, NotBuilt, BadTable}
use Rattle.haloop_run.specs.declared.fault.CommandFault.{CommandFault}
use Rattle.haloop_run.specs.declared.fault.CommandFault.TheVariants.{Refused, Stopped, Failed}
use Rattle.haloop_run.specs.Inputs.{Outcome}
use Rattle.haloop_run.specs.steps.Inputs.{AtAbsent, Stops, outcome_of}

pub at_absent : (fault : InputFault) (p q : Type 0) → (p → q) → AtAbsent fault p → AtAbsent fault q
at_absent (Absent name) p q f a = f a
at_absent (BadProgram line what) p q f a = tt
at_absent (BadSchedule line what) p q f a = tt
at_absent NotBuilt p q f a = tt
at_absent (BadTable name what) p q f a = tt

pub at_device : (fault : FileFault) (p q : Type 0) → (p → q) → AtFileDevice fault p → AtFileDevice fault q
at_device (file.Device d) p q f a = f a
at_device file.Memory p q f a = tt

module _ {F : Type 0} (g : Ghosts F) where
  pub reads_none : (files : F) → OnlyReads g files files
  reads_none files = ((omega arith, omega arith), refl)

  pub reads_then : (old mid new : F) → OnlyReads g old mid → OnlyReads g mid new → OnlyReads g old new
  reads_then old mid new r s = ((omega (arith, r.0.0, s.0.0), omega (arith, r.0.1, s.0.1)), s.1 ∙ r.1)

  -- what the files tell after reads they told before
  pub told_later : (old mid : F) (told : FileMap) → OnlyReads g old mid → Tells g old told → Tells g mid told
  told_later old mid told r t = r.1 ∙ t

  -- a step that stops behind reads stops the step around it
  pub stops_later : (old mid new : F) (P Q : FileMap → Outcome → Type 0) (fault : CommandFault) → OnlyReads g old mid → ((told : FileMap) → Tells g old told → (it : Outcome) → P told it → Q told it) → Stops g mid new P fault → Stops g old new Q fault
  stops_later old mid new P Q (Refused fault) r pq s = (
    λ told t. pq told t (outcome_of fault) (s.0 told (told_later old mid told r t)),
    at_absent fault (AbsentsRose g mid new) (AbsentsRose g old new) (rose_before (g.absents old) (g.absents mid) (g.absents new) r.0.1) s.1,
  )
  stops_later old mid new P Q (Stopped fault) r pq s = s
  stops_later old mid new P Q (Failed fault) r pq s = at_device fault (FaultsRose g mid new) (FaultsRose g old new) (rose_before (g.faults old) (g.faults mid) (g.faults new) r.0.0) s
