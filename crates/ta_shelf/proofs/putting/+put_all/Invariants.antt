use Rattle.ta_shelf.proofs.Common.{length}
use Rattle.ta_shelf.proofs.putting.+put_all.Given as goal

-- the files that are left
abbrev pub decreases-put_all : goal.decreases-put_all
decreases-put_all g l = length l.puts.now
