-- The line of each fault that commands share, from how it begins up to the line.
use Rattle.std.specs.Prelude.{ℕ, List, ◌++◌, codes}
use Rattle.flp_syntax.specs.declared.fault.LangFault.TheVariants as lang
use Rattle.flp_report.specs.declared.fault.BatchFault.{BatchFault}
use Rattle.flp_report.specs.declared.fault.BatchFault.TheVariants as file
use Rattle.flp_load.specs.declared.fault.CircuitFault.{CircuitFault}
use Rattle.flp_load.specs.declared.fault.CircuitFault.TheVariants as circuit
use Rattle.flp_batch.specs.declared.fault.EngineFault.{EngineFault}
use Rattle.flp_batch.specs.declared.fault.EngineFault.TheVariants.{Memory, Read, Write, Batch, Circuit}
use Rattle.flp_lines.specs.declared.fault.FileKind.{FileKind}
use Rattle.flp_lines.specs.declared.fault.FileKind.TheVariants as kind
use Rattle.flp_lines.specs.Batch.{batch_text}
use Rattle.flp_lines.specs.Circuit.{circuit_text}

-- what a file is
abbrev pub file_name : FileKind → List ℕ
file_name kind.Batch = codes "batch"
file_name kind.Job = codes "job"
file_name kind.Circuit = codes "circuit"

-- how the line of a refused file begins
abbrev pub line_start : FileKind → List ℕ
line_start kind = codes "flp: " ++ file_name kind ++ codes ": "

-- the line of a refused circuit
abbrev pub circuit_line : CircuitFault → List ℕ
circuit_line fault = line_start kind.Circuit ++ circuit_text fault ++ codes "\n"

-- the line of a refused file; a text that is too long is a refused circuit
abbrev pub refused_line : FileKind → BatchFault → List ℕ
refused_line kind (file.TextLength length) = circuit_line (circuit.Lang (lang.TextLength length))
refused_line kind fault = line_start kind ++ batch_text fault ++ codes "\n"

-- the lines of failures that no file explains
abbrev pub memory_line : List ℕ
memory_line = codes "flp: no memory\n"

abbrev pub read_line : List ℕ
read_line = codes "flp: read fault\n"

abbrev pub write_line : List ℕ
write_line = codes "flp: write fault\n"

-- the line of each fault of a command that reads a file of this kind
abbrev pub fault_line : FileKind → EngineFault → List ℕ
fault_line kind Memory = memory_line
fault_line kind Read = read_line
fault_line kind Write = write_line
fault_line kind (Batch fault) = refused_line kind fault
fault_line kind (Circuit fault) = circuit_line fault
