-- What a fault that is handed on says.
use Rattle.std.proofs.Common.{◌≡◌, Result, Err, subst, sym}
use Rattle.std.specs.Prelude.{IsErrAnd}
use Rattle.std.proofs.lemmas.Result.{err_from_is_err_and}
use Rattle.record_blocks.specs.declared.fault.TextFault.{TextFault}
use Rattle.record_blocks.specs.declared.fault.TextFault.TheVariants as fault

by_fault : {B : Type 0} (Q : Result B TextFault → Type 0) (S : TextFault → Type 0) (f : TextFault) → S f → Q (Err fault.Memory) → (S fault.Malformed → Q (Err fault.Malformed)) → Q (Err f)
by_fault Q S fault.Memory s m k = m
by_fault Q S fault.Malformed s m k = k s

-- a fault is handed on: where the part is malformed, so is the whole
pub exits : {B : Type 0} (Q : Result B TextFault → Type 0) (S : TextFault → Type 0) (r : Result B TextFault) (f : TextFault) → IsErrAnd r (λ it. it ≡ f) → S f → Q (Err fault.Memory) → (S fault.Malformed → Q (Err fault.Malformed)) → Q r
exits Q S r f is s m k =
    let e = err_from_is_err_and r is in
    subst Q (sym e.1) (subst (λ it. Q (Err it)) (sym e.2) (by_fault Q S f s m k))
