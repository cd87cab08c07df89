use Rattle.text.proofs.Turning.{step_turns}
use Rattle.text.proofs.taking.take_line.Goals as goal

pub returns : goal.returns
returns g c = step_turns _ _ (λ _. g.R.ByLines.view c.step.new.self) _ _ c.said.result c.in_ok-said.said c.step.result c.said.ensures.sound c.in_ok-said.ensures.ok_part c.step.ensures
