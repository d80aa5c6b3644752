-- Cited by public clauses. The reply to a request of an edition. Which page answers a target is the
-- project's own; that HEAD has the head of GET is RFC 9110, section 9.3.2, and a reply to a method
-- that isn't allowed is section 15.5.6.
use Rattle.std.specs.Prelude.{ℕ, Bool, List, [], ◌++◌, length, map, codes}
use Rattle.corpus.specs.Corpora.{Edition}
use Rattle.http_wire.specs.declared.request.Request.{Request}
use Rattle.http_wire.specs.declared.request.Verb.{Verb}
use Rattle.http_wire.specs.declared.request.Verb.TheVariants as verbs
use Rattle.http_wire.specs.declared.reply.Code.{Code}
use Rattle.http_wire.specs.declared.reply.Code.TheVariants as codes_of
use Rattle.http_wire.specs.Reply.{reply_head_of}
use Rattle.routes.specs.declared.target.Target.{Target}
use Rattle.routes.specs.declared.target.Target.TheVariants as targets
use Rattle.routes.specs.Targets.{target_of}
use Rattle.godoc_commands.specs.Pages.{faults_page, list_page, message_page}

-- what answers a target: the status of the reply (RFC 9110, section 15), and the bytes of the page
pub record Answer : Type 0 where
  pub code : Code
  pub page : List ℕ

abbrev pub with_code : Code → List ℕ → Answer
with_code code page = record { code = code; page = page }

abbrev pub not_found : Answer
not_found = with_code codes_of.NotFound (message_page (codes "Not found"))

-- what answers a target, of an edition; a target that has no page yet isn't found
abbrev pub page_of : Edition → Target → Answer
page_of edition targets.List = with_code codes_of.Ok
    (list_page (map (λ p. p.path) edition.tables.packages) (length edition.tables.faults))
page_of edition targets.Faults =
    with_code codes_of.Ok (faults_page edition.sources.entries edition.tables.faults)
page_of edition targets.BadTarget =
    with_code codes_of.BadRequest (message_page (codes "Bad request"))
page_of edition targets.BadVerb =
    with_code codes_of.NotAllowed (message_page (codes "Method not allowed"))
page_of edition targets.NotFound = not_found
page_of edition (targets.PackagePage path) = not_found
page_of edition (targets.SourcePage path) = not_found
page_of edition (targets.Search name page) = not_found

-- what stands after the head: the page, and nothing for HEAD
abbrev pub content_by : Verb → List ℕ → List ℕ
content_by verbs.Get page = page
content_by verbs.Head page = []
content_by verbs.Other page = page

-- the head of a reply with this page, and the page
abbrev pub reply_with : Answer → ℕ → Verb → Bool → List ℕ
reply_with answer number verb last =
    reply_head_of answer.code (length answer.page) number last ++ content_by verb answer.page

-- the reply of the edition with this number to a request; whether it is the last one
unfoldable pub reply_of : ℕ → Edition → Request → Bool → List ℕ
reply_of number edition request last =
    reply_with (page_of edition (target_of request)) number request.verb last
