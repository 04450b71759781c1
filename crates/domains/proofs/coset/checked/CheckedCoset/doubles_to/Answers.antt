use Rattle.std.proofs.Common.{◌∙◌, ap, le-leb}
use Rattle.std.proofs.lemmas.Bool.{lt-leb}
use Rattle.domains.specs.Coset.{same_coset, is_doubling_of}
use Rattle.domains.proofs.Cosets.{same_by_fields}
use Rattle.domains.proofs.coset.checked.CheckedCoset.doubles_to.Goals as goal

pub returns-then-c-log_size : goal.returns-then-c-log_size
unfolding is_doubling_of
returns-then-c-log_size c =
    rw (le-leb c.args.c.log_size c.args.self.coset.log_size c.if-c-log_size.true)
    (c.eq.ensures ∙ same_by_fields c.args.c c.repeated_double.result.coset ∙ ap (same_coset c.args.c) c.repeated_double.ensures)

pub returns-else-c-log_size : goal.returns-else-c-log_size
unfolding is_doubling_of
returns-else-c-log_size c = rw (lt-leb c.args.c.log_size c.args.self.coset.log_size c.if-c-log_size.false)
