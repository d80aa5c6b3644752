-- The file that chunks are, by the first and the others.
use Rattle.std.proofs.Common.{◌≡◌, ◌∙◌, ap, sym, refl, subst, ℕ, suc, ◌+◌, ◌-◌, ◌<◌, ◌≤◌, List, []}
use Rattle.std.proofs.Common.{◌∷◌}
use Rattle.std.proofs.Common.{length, take, drop, get_or, Option, Some, None, arith, take_all}
use Rattle.go_ast.specs.declared.declaration.Decl.{Decl}
use Rattle.go_ast.specs.declared.token.Span.{Span}
use Rattle.go_ast.specs.declared.token.Token.{Token}
use Rattle.go_ast.specs.Files as files
use Rattle.go_ast.specs.Files.{AreDecls, IsFile, LacksClause, file_of}
use Rattle.go_ast.specs.Marks.{words_of}
use Rattle.go_parser.specs.declared.chunk.Chunk.{Chunk}
use Rattle.go_parser.specs.declared.declarations.Declared.TheVariants as declared
use Rattle.go_parser.specs.Parsing.{IsBadAt, IsDeclared, read_clause, words_in}
use Rattle.go_parser.proofs.Clauses.{clause-lacks, clause-sound}

abbrev pub others : List Chunk → List Chunk
others chunks = take (length chunks - 1) (drop 1 chunks)

others-are : (c : Chunk) (chunks : List Chunk) → others (c ∷ chunks) ≡ chunks
others-are c chunks = take_all (length (c ∷ chunks) - 1) chunks (omega arith)

module _ (source : List ℕ) (ts : List Token) where
  pub first-lacks : (chunks : List Chunk) (d : Chunk) → 1 ≤ length chunks
      → read_clause source (words_of source ts (get_or chunks 0 d).tokens) ≡ None
      → LacksClause source (words_in source ts chunks)
  first-lacks [] d h e = absurd (omega (arith, h))
  first-lacks (c ∷ chunks) d h e =
      clause-lacks source (words_of source ts c.tokens) (words_in source ts chunks) e

  pub all-declared : (chunks : List Chunk) (d : Chunk) (name : Span) (ds : List Decl)
      → 1 ≤ length chunks
      → read_clause source (words_of source ts (get_or chunks 0 d).tokens) ≡ Some name
      → AreDecls (words_in source ts (others chunks)) ds
      → IsFile source (words_in source ts chunks) (file_of name ds)
  all-declared [] d name ds h e a = absurd (omega (arith, h))
  all-declared (c ∷ chunks) d name ds h e a =
      files.file (clause-sound source (words_of source ts c.tokens) name e)
      (subst (λ cs. AreDecls (words_in source ts cs) ds) (others-are c chunks) a)

  pub one-bad : (chunks : List Chunk) (d : Chunk) (name : Span) (at : ℕ) → 1 ≤ length chunks
      → read_clause source (words_of source ts (get_or chunks 0 d).tokens) ≡ Some name
      → IsDeclared (words_in source ts (others chunks)) (declared.Bad at)
      → IsBadAt source (words_in source ts chunks) at
  one-bad [] d name at h e a = absurd (omega (arith, h))
  one-bad (c ∷ chunks) d name at h e a = (
    (name, clause-sound source (words_of source ts c.tokens) name e),
    subst (λ cs. IsDeclared (words_in source ts cs) (declared.Bad at)) (others-are c chunks) a,
  )
