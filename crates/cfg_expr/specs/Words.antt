-- Words of this crate and of those below for contracts of callers of `parse` and `eval`.
pub use Rattle.cfgx_syntax.specs.Stripping.{strip}
pub use Rattle.cfgx_fields.specs.declared.text_key.TextKey.{TextKey}
pub use Rattle.cfgx_grammar.specs.Answer.{Answers, HasOneTree}
pub use Rattle.cfg_expr.specs.Fold.{tree_fold}
pub use Rattle.cfgx_grammar.specs.Grammar.{HasTree}
pub use Rattle.cfgx_grammar.specs.Question.{Question, TargetQuestion}
pub use Rattle.cfgx_grammar.specs.Tree.{Tree, asked}
pub use Rattle.cfgx_parser.specs.Asked.{kind_number, without_texts}
pub use Rattle.cfg_expr.specs.Predicate.{question_of}
