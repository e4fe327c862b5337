use Rattle.std.proofs.Common.{◌∙◌, sym}
use Rattle.function_eval.proofs.ResolvingLaws.{slot_of_param, slot_of_variable}
use Rattle.function_eval.proofs.resolve.ScopeNames.slot.Goals as goal

pub returns-in-Some : goal.returns-in-Some
returns-in-Some c = sym (slot_of_param c.args.name.now c.args.self.now c.in-Some.slot (sym c.param.ensures ∙ c.in-Some.is))

pub returns-in-None : goal.returns-in-None
returns-in-None c = c.variable.ensures ∙ sym (slot_of_variable c.args.name.now c.args.self.now (sym c.param.ensures ∙ c.in-None.is))
