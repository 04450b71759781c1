use Rattle.transform.proofs.evaluation.+block.Given as goal

abbrev pub decreases-block : goal.decreases-block
decreases-block l = l.k
