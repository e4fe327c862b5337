use Rattle.std.proofs.Common.{◌+◌, not, [], ◌∷◌, map, subst}
use Rattle.run_model.specs.Needs.{is_there}
use Rattle.loop_scheduler.proofs.Ranges.{from_on}
use Rattle.node_names.specs.declared.name.Name.{Name}
use Rattle.cache_rebuild.specs.steps.Asking.{AsksMore, gone}
use Rattle.cache_rebuild.specs.steps.Files.{files_in, name_of}
use Rattle.cache_rebuild.proofs.Asks.{asking_done, asking_more, left_done, left_more}
use Rattle.cache_rebuild.proofs.asked.Asked.add_files.Goals as goal

pub files-preserved : goal.files-preserved
files-preserved c =
    let view = c.args.view.now in
    let missing = λ (name : Name). not (is_there view.copies view.up c.args.node name) in
    let name = name_of c.args.files.now in
    let more = subst (λ (x : Name). AsksMore c.files.self.names.keys c.add_gone.new.self.names.keys (gone view c.args.node (x ∷ []))) c.name.ensures c.in_ok-add_gone.ensures in
    asking_more c.args.self.now.names.keys c.files.self.names.keys c.add_gone.new.self.names.keys (gone view c.args.node (name c.files.number ∷ [])) (gone view c.args.node (map name (from_on (c.files.number + 1) c.count-number-end.result))) (gone view c.args.node (map name (from_on c.files.number c.count-number-end.result))) (gone view c.args.node (files_in c.args.files.now))
    (left_more missing name c.files.number c.count-number-end.result c.files-test.true) more c.files.invariant

pub returns : goal.returns
returns c =
    let view = c.args.view.now in
    let missing = λ (name : Name). not (is_there view.copies view.up c.args.node name) in
    asking_done c.args.self.now.names.keys c.files.self.names.keys (gone view c.args.node (map (name_of c.args.files.now) (from_on c.files.number c.count-number-end.result))) (gone view c.args.node (files_in c.args.files.now))
    (left_done missing (name_of c.args.files.now) c.files.number c.count-number-end.result c.files-test.false) c.files.invariant
