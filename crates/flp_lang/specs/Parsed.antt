-- What a text is parsed to: the one circuit that the grammar derives from all its tokens, or the first fault.
use Rattle.std.specs.Prelude.{ℕ, ◌≡◌, ◌<◌, ◌≤◌, List, length}
use Rattle.flp_syntax.specs.Tokens.{IsLexed, IsStuck}
use Rattle.flp_syntax.specs.Tree.{Text}
use Rattle.flp_lang.specs.Verdict.{Verdict, good, bad, deep, IsJudgedAs}
use Rattle.flp_syntax.specs.declared.fault.LangFault.{LangFault}
use Rattle.flp_syntax.specs.declared.fault.LangFault.TheVariants.{Memory, TextLength, Lex, Syntax, Depth}
use Rattle.flp_syntax.specs.declared.token.Token.{Token}

-- the text is tokens, and the tokens have this verdict
abbrev pub HasVerdict : List ℕ → Verdict → Type 0
HasVerdict text verdict = (tokens : List Token) × IsLexed text tokens × IsJudgedAs tokens verdict

-- the text is this circuit's
abbrev pub IsParsed : List ℕ → Text → Type 0
IsParsed text circuit = HasVerdict text (good circuit)

-- the text has this fault; want of memory says nothing of it
abbrev pub IsParseFault : List ℕ → LangFault → Type 0
IsParseFault text Memory = Unit {0}
IsParseFault text (TextLength size) = (65536 < length text) × (size ≡ length text)
IsParseFault text (Lex at) = (length text ≤ 65536) × IsStuck text at
IsParseFault text (Syntax k) = HasVerdict text (bad k)
IsParseFault text (Depth k) = HasVerdict text (deep k)
IsParseFault text _ = ⊥
