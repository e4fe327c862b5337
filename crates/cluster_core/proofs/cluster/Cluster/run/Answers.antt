use Rattle.cluster_core.proofs.RightTurns.{texts_told, unmissed_told}
use Rattle.cluster_core.proofs.cluster.Cluster.run.Goals as goal

pub returns-clause-texts : goal.returns-clause-texts
returns-clause-texts g c = λ none. texts_told g.D.Disks (g.F.Functions.meaning c.args.functions.now) c.args.self.now.state.setup c.args.self.now.state.kept c.args.disks.now c.all_turns.new.disks _ c.all_turns.ensures.calls

pub returns-clause-unmissed : goal.returns-clause-unmissed
returns-clause-unmissed g c = λ none. unmissed_told g.D.Disks (g.F.Functions.meaning c.args.functions.now) c.args.self.now.state.setup c.args.self.now.state.kept c.args.disks.now c.all_turns.new.disks _ c.all_turns.ensures.calls (g.met.D.Disks.sound_shows c.args.disks.now)
