-- `check` meets its contract.
use native.Mathlib.Omega.{arith}
use Rattle.text.proofs.Runs.{reached_lead, valid}
use Rattle.text.proofs.check.Goals as goal

pub returns-then-lead-s : goal.returns-then-lead-s
returns-then-lead-s c = valid (reached_lead c.ascii_lead-lead.ensures) (omega arith)
