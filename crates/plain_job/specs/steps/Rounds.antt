-- The rounds of the plain chain, one after another.
use Rattle.std.specs.Prelude.{Bool, true, false}
use Rattle.plain_job.specs.declared.ending.End.{End}
use Rattle.plain_job.specs.declared.ending.End.TheVariants.{Fixpoint, Close, Limit}

-- how the chain ends in a round: near the round before, where the program stops exactly or not, or by its limit
abbrev pub end_by : Bool → Bool → End
end_by true true = Fixpoint
end_by true false = Close
end_by false exact = Limit
