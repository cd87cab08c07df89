use Rattle.lines.proofs.NameTexts.{static, rotating, rotating_predicate}
use Rattle.lines.proofs.names.name.Goals as goal

pub returns-in-Some : goal.returns-in-Some
returns-in-Some c =
    let f = c.in-Some.ensures.sound in
    record {
      sound = record { short = f.small; whole = f.whole; ends = f.ends };
      complete = λ x rest h. static _ _ _ x rest f h;
    }

pub returns-in-Some-field : goal.returns-in-Some-field
returns-in-Some-field c =
    let f = c.in-Some-field.ensures.sound in
    record {
      sound = record { short = f.small; whole = f.whole; ends = f.ends };
      complete = λ x rest h. rotating _ _ _ x rest f h;
    }

pub returns : goal.returns
returns c =
    let f = c.in_ok-n.ensures.sound in
    record {
      sound = record { short = f.small; whole = f.whole; ends = f.ends };
      complete = λ x rest h. rotating_predicate _ _ _ x rest f h;
    }
