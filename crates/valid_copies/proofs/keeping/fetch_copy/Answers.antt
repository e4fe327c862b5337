use Rattle.valid_copies.proofs.CopyReads.{copy_read}
use Rattle.valid_copies.proofs.Rightly.{works_read}
use Rattle.valid_copies.proofs.Steps.{any_read, any_text}
use Rattle.valid_copies.proofs.keeping.fetch_copy.Goals as goal

pub returns-clause-text : goal.returns-clause-text
returns-clause-text g c = λ shows.
    any_text c.args.file.now c.fetch.result (g.D.Disks.told c.args.disks.now) (g.D.Disks.told c.fetch.new.disks) (g.met.D.Disks.damage_shows c.fetch.new.disks (c.fetch.ensures.damage_shown shows)) c.fetch.ensures.done c.fetch.ensures.found c.fetch.ensures.kept

pub returns-clause-valid : goal.returns-clause-valid
returns-clause-valid g c = λ w copies s.
    any_read w copies c.args.file.now c.fetch.result (g.D.Disks.told c.args.disks.now) (g.D.Disks.told c.fetch.new.disks) _ c.fetch.ensures.done c.fetch.ensures.failed s

pub returns-clause-calls : goal.returns-clause-calls
returns-clause-calls g c = λ w copies stands kept.
    works_read w copies c.args.file.now kept g.D.Disks c.args.disks.now c.fetch.new.disks _ c.fetch.result c.fetch.ensures.misses_stay c.fetch.ensures.soundness_kept (g.met.D.Disks.sound_is c.fetch.new.disks) c.fetch.ensures.only_missed c.fetch.ensures.found c.fetch.ensures.done c.fetch.ensures.failed stands

pub returns-clause-asked : goal.returns-clause-asked
returns-clause-asked g c = λ copies kept. copy_read copies c.args.file.now kept _ c.fetch.result (g.D.Disks.told c.args.disks.now) (g.D.Disks.told c.fetch.new.disks) c.fetch.ensures.done c.fetch.ensures.failed
