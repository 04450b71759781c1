use Rattle.transform.proofs.interpolation.+block.Given as goal

abbrev pub decreases-block : goal.decreases-block
decreases-block l = l.k
