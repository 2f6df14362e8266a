use Rattle.std.proofs.Common.{◌≡◌, Some, None, ◌∙◌}
use Rattle.flp_jobs.proofs.parts.load_encoding.Goals as goal

pub unreachable-requires : goal.unreachable-requires
unreachable-requires c =
    let no : Some c.in-Err.field-0 ≡ None = c.in-Err.ensures.fault ∙ c.requires.taken in
    cc
