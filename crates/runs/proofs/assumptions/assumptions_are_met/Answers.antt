use Rattle.runs.proofs.Serial.{marks_within_accesses, marks_within_registers, serial_runs_as_written}
use Rattle.runs.proofs.assumptions.assumptions_are_met.Goals as goal

pub returns : goal.returns
returns c = record {
  accesses = marks_within_accesses;
  registers = marks_within_registers;
  serial = serial_runs_as_written;
}
