use Rattle.text.specs.Views.{reading_of}
use Rattle.text.specs.Loads.{in_program}
use Rattle.text.proofs.Describes.{from_start}
use Rattle.text.proofs.Loads.{answered_err, not_described, all_loaded}
use Rattle.text.proofs.two_texts.load.Goals as goal

pub returns-in_err-machine : goal.returns-in_err-machine
returns-in_err-machine c =
    answered_err _ _ _ _ c.from_residual-in_err-machine.ensures.1 (not_described _ _ _ _ c.in_ok-fits.ensures c.in_ok-fits-2.ensures c.in_err-machine.ensures)

pub returns-in_err-new : goal.returns-in_err-new
returns-in_err-new c =
    answered_err _ _ _ _ c.from_residual-in_err-new.ensures.1 (record { short = (c.in_ok-fits.ensures, c.in_ok-fits-2.ensures); machine = c.in_ok-machine.machine; described = c.in_ok-machine.ensures })

pub returns-in_err-take_lines : goal.returns-in_err-take_lines
returns-in_err-take_lines c =
    answered_err _ _ _ _ c.from_residual-in_err-take_lines.ensures.1 (in_program c.in_ok-fits.ensures c.in_ok-fits-2.ensures c.in_ok-machine.machine c.in_ok-machine.ensures (from_start _ _ _ _ c.in_ok-new.ensures c.in_err-take_lines.ensures))

pub returns : goal.returns
returns c = all_loaded _ _ c.in_ok-machine.machine _ (reading_of c.take_lines.new.reading) c.in_ok-fits.ensures c.in_ok-fits-2.ensures c.in_ok-machine.ensures c.in_ok-new.ensures c.in_ok-take_lines.ensures
