-- `parse` returns what the grammar says, once the whole text is read.
use Rattle.std.proofs.Common.{◌≡◌, ℕ, ◌≤◌, List, length, Result, Ok, Err, IsOk, ap, refl, rules}
use Rattle.std.{specs.Prelude.IsErrAnd, proofs.lemmas.Result.err_from_is_err_and}
use Rattle.cfgx_syntax.{specs.Items.HasOneTokenList, specs.Stripping.strip}
use Rattle.cfgx_syntax.specs.{declared.error.Failure.Failure, LexerState.{LexerState, starting}}
use Rattle.cfgx_syntax.specs.declared.error.Failure.TheVariants as failure
use Rattle.cfgx_grammar.{specs.Answer.Answers, specs.Answer.HasOneTree, proofs.Stripped.strip-tree}
use Rattle.cfgx_parser.{specs.nodes.KeepsTree.KeepsOneTree, specs.declared.parser.Parser.Parser}
use Rattle.cfgx_parser.proofs.Kept.{KeepsOneTree-accepted}
use Rattle.cfgx_grammar.{specs.parsing.State.initial, proofs.Answering.reads_one_way}
use Rattle.cfgx_parser.specs.parsing.Parser.{state_of, Ends, ReadsAll, ReadsShort, room_of}
use Rattle.cfgx_parser.specs.parsing.NodeState.{ParserState}
use Rattle.cfgx_grammar.proofs.Answering.{HasOneTree-tree, ReadsAs-fault, answer, tree_of}
use Rattle.cfgx_grammar.proofs.Answering.{not_both}
use Rattle.cfgx_syntax.specs.Error.{Fault}

-- the lexer and the parser are at the start of the text
pub record Begins {A : Type 0} (text : List ℕ) (lexer : LexerState)
    (parser : Parser A) : Type 0 where
  pub one : HasOneTokenList text
  pub lexer_is : lexer ≡ starting text
  pub state_is : state_of {A = A} parser ≡ initial

-- a call that is out of memory
pub Answers-memory : {A : Type 0} (text : List ℕ) → HasOneTokenList text → (error : _)
    (result : Result (List ℕ) (Failure A)) → IsErrAnd result (λ f. f ≡ failure.Memory error)
    → Answers text result
Answers-memory text one error result is =
    let (failed, is_err, is_memory) = err_from_is_err_and result is in
    rw (is_err, is_memory) (reads_one_way text one)

module _ {A : Type 0} {text : List ℕ} {lexer : LexerState} {old : Parser A} (new : Parser A) where
  given : (result : Result (Unit {0}) (Failure A)) (b : Begins {A = A} text lexer old)
      → ReadsAll {A = A} lexer old new result → Ends {A = A} result text new (answer text b.one)
  given result b reads =
      let ends = (rw b.lexer_is at reads) b.one.items b.one.ending b.one.are in
      rw b.state_is at ends

  pub Answers-fails : (f : Failure A) → Begins {A = A} text lexer old
      → ReadsAll {A = A} lexer old new (Err f) → Answers text (Err f)
  Answers-fails (failure.Parse error) b reads =
      let (fault, refused, same) = given (Err (failure.Parse error)) b reads in
      (fault, same, ReadsAs-fault text b.one fault refused)
  Answers-fails (failure.Memory error) b reads = reads_one_way text b.one

  -- an accepted text
  pub Accepted : Begins {A = A} text lexer old → ReadsAll {A = A} lexer old new (Ok tt)
      → KeepsOneTree text new.writer.nodes.items new.writer.places.items
      × (strip text ≡ text) × HasOneTree text
  Accepted b reads =
      let accepts = given (Ok tt) b reads in
      let (tree, has) = tree_of text b.one _ accepts in (
        KeepsOneTree-accepted text b.one _ accepts,
        strip-tree text tree has,
        HasOneTree-tree has,
      )

-- a new parser reads a condition of at most four bytes without memory
pub Short-read : {A : Type 0} {text : List ℕ} {lexer : LexerState} {old : Parser A}
    (result : Result (Unit {0}) (Failure A)) → Begins {A = A} text lexer old → HasOneTree text
    → length text ≤ 4 → ReadsShort {A = A} lexer old result → IsOk result
Short-read {A} {text} {old = old} result b one short reads =
    let few : room_of (state_of {A = A} old) ≡ 0 = ap room_of b.state_is in
    let ready = (rw b.lexer_is at reads) few short b.one.items b.one.ending b.one.are in
    (rw b.state_is at ready) (accepted (answer text b.one) refl)
  where
    accepted : (r : Result ParserState Fault) → answer text b.one ≡ r → IsOk r
    accepted (Ok s) is = search rules
    accepted (Err fault) is = absurd (not_both (ReadsAs-fault text b.one fault is) one)
