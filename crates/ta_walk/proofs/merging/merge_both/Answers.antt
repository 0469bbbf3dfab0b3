use Rattle.ta_walk.proofs.merging.merge_both.Goals as goal

pub returns-clause-visited : goal.returns-clause-visited
returns-clause-visited g c = λ s ws vs begun late one other fresh.
    c.merge.ensures.visited s ws vs begun late (rw c.in_ok-first.was at one) (rw c.in_ok-second.was at other) fresh

pub returns-clause-whole : goal.returns-clause-whole
returns-clause-whole g c = λ one other. c.merge.ensures.whole (rw c.in_ok-first.was at one) (rw c.in_ok-second.was at other)

pub returns-clause-counted : goal.returns-clause-counted
returns-clause-counted g c = λ low high one other. c.merge.ensures.counted low high (rw c.in_ok-first.was at one) (rw c.in_ok-second.was at other)
