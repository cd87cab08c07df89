use Rattle.std.proofs.Common.{◌≡◌, take, sym, ◌∙◌, subst, rules, tests}
use Rattle.std.proofs.lemmas.Iterator.{YieldsList-from_slice}
use Rattle.std.proofs.lemmas.Iterator.Consumers.{count_from_yields_List}
use Rattle.std.proofs.lemmas.Iterator.Search.{YieldsList-from_take_while}
use Rattle.std.proofs.lemmas.List.Folds.{length-prefix_len}
use Rattle.std.specs.Char.{is_ascii_digit}
use Rattle.std.specs.Str.Parse.{AllDigits}
use Rattle.lines.specs.Numbers.{run}
use Rattle.lines.proofs.Runs.{run_is, front}
use Rattle.lines.proofs.number.digit_count.Goals as goal

pub returns : goal.returns
returns c =
    let t = c.args.text.now in
    let count : c.count.result ≡ run t =
    count_from_yields_List c.take_while.result _ c.count.ensures.ran
    (YieldsList-from_take_while _ is_ascii_digit (YieldsList-from_slice t cc) c.take_while.ensures.closure c.take_while.ensures.done (λ x b q k. search (rules, tests)))
    ∙ length-prefix_len is_ascii_digit t
    ∙ run_is t
    in
    record { count = count; within = search rules; all = subst (λ m. AllDigits 10 (take m t)) (sym count) (front t).all }
