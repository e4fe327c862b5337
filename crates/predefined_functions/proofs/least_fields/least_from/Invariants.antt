use Rattle.std.proofs.Common.{◌≡◌, drop}
use Rattle.std.specs.Option.{option_copied}
use Rattle.plain_job.specs.Predefined.{least_of}
use Rattle.predefined_functions.proofs.least_fields.least_from.Given as goal

abbrev pub invariant-fields : goal.invariant-fields
invariant-fields l = least_of (option_copied l.least) (drop l.one-index l.fields) ≡ least_of (option_copied l.first) l.fields
