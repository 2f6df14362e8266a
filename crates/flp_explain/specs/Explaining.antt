-- What explains the records of a batch.
use Rattle.std.specs.Prelude.{[]}
use Rattle.flp_batch.specs.Lines.{Wording}
use Rattle.flp_batch.specs.Setting.{Setting}
use Rattle.flp_explain.specs.declared.explaining.Explaining.{Explaining}
use Rattle.flp_explain.specs.Text.{words_by}

-- what records are explained by. Old claims are not looked at
abbrev pub setting_of : Explaining → Setting
setting_of e = record { params = e.loaded.now.params; circuit = e.loaded.now.plan.circuit; shape = e.shape; claims = [] }

-- what is written of them
abbrev pub wording_of : Explaining → Wording
wording_of e = words_by e.joint (setting_of e)
