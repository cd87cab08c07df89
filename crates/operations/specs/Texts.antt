-- Operations, and violated dependences, as text. Assumes nothing.
use Rattle.std.specs.Prelude.{ℕ, cond, List, [], ◌++◌, codes, decimal, ◌==◌}
use Rattle.std.specs.Fmt.{signed_decimal}
use Rattle.opcodes.specs.declared.compare.Condition.{Condition}
use Rattle.opcodes.specs.Texts.{binary_text, unary_text, condition_text, action_text}
use Rattle.registers.specs.declared.banked.Banked.TheVariants as banked
use Rattle.registers.specs.Registers.{Predicate}
use Rattle.registers.specs.Texts.{general_text, predicate_text, place_text}
use Rattle.operations.specs.declared.refusal.Dependence.{Dependence}
use Rattle.operations.specs.declared.refusal.Dependence.TheVariants.{Flow, Anti, Output, Memory}
use Rattle.operations.specs.declared.refusal.Violation.{Violation}
use Rattle.operations.specs.declared.operation.Source as source
use Rattle.operations.specs.declared.operation.Source.{Source}
use Rattle.operations.specs.declared.operation.Form.{Form}
use Rattle.operations.specs.declared.operation.Form.TheVariants.{Binary, Unary, Compare, Load, Store}
use Rattle.operations.specs.declared.operation.Operation.{Operation}
use Rattle.operations.specs.declared.targets.Targets.{Targets}

abbrev pub source_text : Source → List ℕ
source_text (source.TheVariants.Register g) = general_text g
source_text (source.TheVariants.Literal z) = signed_decimal z

abbrev pub compare_text : Condition → Targets → List ℕ
compare_text c t =
    predicate_text t.first.to ++ (codes ", " ++ (predicate_text t.second.to ++ (codes " = CMPP.W." ++ (condition_text c ++
    (codes "." ++ (action_text t.first.action ++ (codes "." ++ action_text t.second.action)))))))

abbrev pub sources_text : Source → Source → List ℕ
sources_text a b = source_text a ++ (codes ", " ++ source_text b)

abbrev pub form_text : Form → List ℕ
form_text (Binary o d a b) = general_text d ++ (codes " = " ++ (binary_text o ++ (codes ".W(" ++ (sources_text a b ++ codes ")"))))
form_text (Unary o d a) = general_text d ++ (codes " = " ++ (unary_text o ++ (codes ".W(" ++ (source_text a ++ codes ")"))))
form_text (Compare c t a b) = compare_text c t ++ (codes "(" ++ (sources_text a b ++ codes ")"))
form_text (Load d a) = general_text d ++ (codes " = L(" ++ (general_text a ++ codes ")"))
form_text (Store a v) = codes "S(" ++ (general_text a ++ (codes ", " ++ (general_text v ++ codes ")")))

-- the guard p1 is left off
abbrev pub guard_text : Predicate → List ℕ
guard_text (banked.Static n) = cond (n.number == 1) [] (codes " if " ++ predicate_text (banked.Static n))
guard_text (banked.Rotating n) = codes " if " ++ predicate_text (banked.Rotating n)

abbrev pub operation_text : Operation → List ℕ
operation_text x = form_text x.form ++ guard_text x.guard

abbrev pub dependence_text : Dependence → List ℕ
dependence_text Flow = codes "flow"
dependence_text Anti = codes "anti"
dependence_text Output = codes "output"
dependence_text Memory = codes "memory"

-- its kind, its place, the two operations, and the least cycle of the second
abbrev pub violation_text : Violation → List ℕ
violation_text v =
    dependence_text v.dependence ++ (codes " " ++ (place_text v.place ++ (codes " " ++ (decimal v.first ++ (codes " " ++ (decimal v.second ++ (codes " needs " ++ decimal v.least)))))))
