use Rattle.transform.proofs.twiddles.+add_steps.Given as goal

abbrev pub decreases-add_steps : goal.decreases-add_steps
decreases-add_steps l = l.s
