use Rattle.std.proofs.lemmas.List.{take_all}
use Rattle.operations.proofs.Joining.{joined_is}
use Rattle.operations.proofs.texts.join.Goals as goal

pub returns : goal.returns
returns c = let w = take_all _ _ c.added-test.false in let j = joined_is c.args.text c.args.more.now c.len-room.ensures.text.0 in cc (c.added.invariant.so_far, w, j, c.min.ensures, c.len-room.ensures.len, c.as_slice-bytes.ensures.value)
