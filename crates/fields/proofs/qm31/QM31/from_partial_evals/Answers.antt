use Rattle.fields.specs.FieldLaws.{below_where_checked, qm31_lawful}
use Rattle.fields.proofs.qm31.QM31.from_partial_evals.Goals as goal

pub from_partial_evals-requires : goal.from_partial_evals-requires
from_partial_evals-requires c = record {
  first = below_where_checked qm31_lawful _ _ _ c.check.ensures c.in_ok-check.was;
  second = below_where_checked qm31_lawful _ _ _ c.check-2.ensures c.in_ok-check-2.was;
  third = below_where_checked qm31_lawful _ _ _ c.check-3.ensures c.in_ok-check-3.was;
  fourth = below_where_checked qm31_lawful _ _ _ c.check-4.ensures c.in_ok-check-4.was;
}
