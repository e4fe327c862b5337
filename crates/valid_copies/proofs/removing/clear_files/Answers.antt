use Rattle.std.proofs.Common.{[]}
use Rattle.replica_table.specs.Sets.{members}
use Rattle.valid_copies.proofs.Clearing.{cleared_begun, cleared_follows, cleared_others, cleared_stands}
use Rattle.valid_copies.proofs.Digests.{digests_cleared, digests_removed_some, removed_nothing, removed_some_nothing}
use Rattle.valid_copies.specs.Removing.{goes}
use Rattle.valid_copies.proofs.Rightly.{works_removed, works_removed_some}
use Rattle.valid_copies.proofs.removing.clear_files.Goals as goal

pub returns-in-Ok-clause-followed : goal.returns-in-Ok-clause-followed
returns-in-Ok-clause-followed g c = rw (c.strike_those.ensures, c.names_that_go-leaving.ensures.shape, c.names_that_go-leaving.ensures.round, c.names_that_go-leaving.ensures.before, c.names_that_go-leaving.ensures.kept) (cleared_follows c.args.shape.now c.args.keep c.args.round (members c.args.nodes.0) c.args.table.now.copies c.args.files.now c.requires.listed _ _ c.in-Ok.ensures.removed)

pub returns-in-Ok-clause-valid : goal.returns-in-Ok-clause-valid
returns-in-Ok-clause-valid g c = λ w s. rw (c.strike_those.ensures, c.names_that_go-leaving.ensures.shape, c.names_that_go-leaving.ensures.round, c.names_that_go-leaving.ensures.before, c.names_that_go-leaving.ensures.kept) (cleared_stands c.args.shape.now c.args.keep c.args.round (members c.args.nodes.0) c.args.table.now.copies c.args.files.now c.requires.listed _ _ w c.in-Ok.ensures.others s)

pub returns-in-Ok-clause-others : goal.returns-in-Ok-clause-others
returns-in-Ok-clause-others g c = cleared_others c.args.shape.now c.args.keep c.args.round (members c.args.nodes.0) c.args.table.now.copies c.args.files.now c.requires.listed _ _ c.in-Ok.ensures.others

pub returns-in-Err-clause-stopped : goal.returns-in-Err-clause-stopped
returns-in-Err-clause-stopped g c = cleared_begun c.args.shape.now c.args.keep c.args.round (members c.args.nodes.0) c.args.table.now.copies c.args.files.now c.requires.listed _ _ [] c.in-Err.ensures.begun

pub returns-in-Err-clause-others : goal.returns-in-Err-clause-others
returns-in-Err-clause-others g c = cleared_others c.args.shape.now c.args.keep c.args.round (members c.args.nodes.0) c.args.table.now.copies c.args.files.now c.requires.listed _ _ c.in-Err.ensures.others

pub returns-in-Ok-clause-calls : goal.returns-in-Ok-clause-calls
returns-in-Ok-clause-calls g c = λ w. works_removed g.D.Disks w c.args.disks.now c.remove_files.new.disks c.args.files.now c.in-Ok.ensures.removed c.in-Ok.ensures.soundness_kept c.in-Ok.ensures.not_missed

pub returns-in-Err-clause-calls : goal.returns-in-Err-clause-calls
returns-in-Err-clause-calls g c = λ w. works_removed_some g.D.Disks w c.args.disks.now c.remove_files.new.disks c.args.files.now _ c.in-Err.ensures.missed c.in-Err.ensures.begun c.in-Err.ensures.soundness_kept c.in-Err.ensures.not_missed

pub returns-in-Ok-clause-agree : goal.returns-in-Ok-clause-agree
returns-in-Ok-clause-agree g c = λ agree. rw (c.strike_those.ensures, c.names_that_go-leaving.ensures.shape, c.names_that_go-leaving.ensures.round, c.names_that_go-leaving.ensures.before, c.names_that_go-leaving.ensures.kept) (digests_cleared c.args.table.now.copies (goes c.args.shape.now c.args.keep c.args.round) (members c.args.nodes.0) _ _ c.args.files.now c.in-Ok.ensures.removed agree).1

pub returns-in-Ok-clause-asks : goal.returns-in-Ok-clause-asks
returns-in-Ok-clause-asks g c = λ agree. (digests_cleared c.args.table.now.copies (goes c.args.shape.now c.args.keep c.args.round) (members c.args.nodes.0) _ _ c.args.files.now c.in-Ok.ensures.removed agree).0

pub returns-in-Err-clause-asks : goal.returns-in-Err-clause-asks
returns-in-Err-clause-asks g c = λ agree. (digests_removed_some c.args.table.now.copies _ _ c.args.files.now (Unit {0}) tt c.in-Err.ensures.begun agree).0

pub returns-in-Ok-clause-wrote_nothing : goal.returns-in-Ok-clause-wrote_nothing
returns-in-Ok-clause-wrote_nothing g c = removed_nothing _ _ c.args.files.now c.in-Ok.ensures.removed

pub returns-in-Err-clause-wrote_nothing : goal.returns-in-Err-clause-wrote_nothing
returns-in-Err-clause-wrote_nothing g c = removed_some_nothing _ _ c.args.files.now c.in-Err.ensures.begun
