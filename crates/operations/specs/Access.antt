-- What an operation reads and writes, whether it acts or not. Assumes nothing.
use Rattle.std.specs.Prelude.{ℕ, Bool, false, ◌||◌, List, [], ◌∷◌, ◌++◌, Some, None, Option}
use Rattle.std.specs.Option.{option_to_list, option_map, option_flatten}
use Rattle.opcodes.specs.Words.{word}
use Rattle.operations.specs.declared.access.Class.{Class}
use Rattle.operations.specs.declared.access.Class.TheVariants as class
use Rattle.operations.specs.declared.access.Reads.{Reads}
use Rattle.operations.specs.declared.access.Writes.{Writes}
use Rattle.operations.specs.declared.operation.Source as source
use Rattle.operations.specs.declared.operation.Source.{Source}
use Rattle.operations.specs.declared.operation.Form.{Form}
use Rattle.operations.specs.declared.operation.Form.TheVariants.{Binary, Unary, Compare, Load, Store}
use Rattle.operations.specs.declared.operation.Operation.{Operation}
use Rattle.registers.specs.declared.register.Place.{Place}
use Rattle.registers.specs.declared.register.Place.TheVariants as place
use Rattle.registers.specs.Registers.{general_constant, general_place, predicate_place, same_place}

-- a literal gives itself modulo 2^32
abbrev pub source_constant : Source → Option ℕ
source_constant (source.TheVariants.Register g) = general_constant g
source_constant (source.TheVariants.Literal z) = Some (word z)

abbrev pub source_place : Source → Option Place
source_place (source.TheVariants.Register g) = general_place g
source_place (source.TheVariants.Literal z) = None

abbrev pub class_of : Form → Class
class_of (Binary o d a b) = class.Integer
class_of (Unary o d a) = class.Integer
class_of (Compare c t a b) = class.Compare
class_of (Load d a) = class.Memory
class_of (Store a v) = class.Memory

-- source 1 and source 2
abbrev pub sources_of : Form → Option Source × Option Source
sources_of (Binary o d a b) = (Some a, Some b)
sources_of (Unary o d a) = (Some a, None)
sources_of (Compare c t a b) = (Some a, Some b)
sources_of (Load d a) = (Some (source.TheVariants.Register a), None)
sources_of (Store a v) = (Some (source.TheVariants.Register a), Some (source.TheVariants.Register v))

abbrev pub memory_read : Form → Option Place
memory_read (Binary o d a b) = None
memory_read (Unary o d a) = None
memory_read (Compare c t a b) = None
memory_read (Load d a) = Some place.Memory
memory_read (Store a v) = None

-- the guard and sources 1 and 2, each where it is a place, and the memory for a load
abbrev pub reads_of : Operation → Reads
reads_of x = record {
  guard = predicate_place x.guard;
  first = option_flatten (option_map source_place (sources_of x.form).0);
  second = option_flatten (option_map source_place (sources_of x.form).1);
  memory = memory_read x.form;
}

abbrev pub memory_written : Form → Option Place
memory_written (Binary o d a b) = None
memory_written (Unary o d a) = None
memory_written (Compare c t a b) = None
memory_written (Load d a) = None
memory_written (Store a v) = Some place.Memory

abbrev pub destination_places : Form → Option Place × Option Place
destination_places (Binary o d a b) = (general_place d, None)
destination_places (Unary o d a) = (general_place d, None)
destination_places (Compare c t a b) = (predicate_place t.first.to, predicate_place t.second.to)
destination_places (Load d a) = (general_place d, None)
destination_places (Store a v) = (None, None)

-- destinations 1 and 2, each where it is a place, and the memory for a store
abbrev pub writes_of : Operation → Writes
writes_of x = record {
  first = (destination_places x.form).0;
  second = (destination_places x.form).1;
  memory = memory_written x.form;
}

-- the same as lists of places
abbrev pub read_list : Reads → List Place
read_list r = option_to_list r.guard ++ (option_to_list r.first ++ (option_to_list r.second ++ option_to_list r.memory))

abbrev pub write_list : Writes → List Place
write_list w = option_to_list w.first ++ (option_to_list w.second ++ option_to_list w.memory)

-- whether a place is in a list
abbrev pub among : Place → List Place → Bool
among p [] = false
among p (q ∷ qs) = same_place q p || among p qs

-- whether an operation reads a place; whether it writes it
abbrev pub reads : Place → Operation → Bool
reads p x = among p (read_list (reads_of x))

abbrev pub writes : Place → Operation → Bool
writes p x = among p (write_list (writes_of x))
