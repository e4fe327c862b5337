use Rattle.loop_program.proofs.places.distance_named.Goals as goal

pub returns-in-Below : goal.returns-in-Below
returns-in-Below c = rw c.in-Below.is c.own_named.ensures
