use Rattle.std.proofs.Common.{ap, sym, ◌∙◌, true}
use Rattle.gj_http.specs.Response.{bytes_of}
use Rattle.gj_http.proofs.FixedLemmas.{closing-memory, closing-not_accepted, closing-accepted, closing-no_look}
use Rattle.gj_reply.specs.FixedTexts.{fixed_text}
use Rattle.gj_reply.specs.declared.status.Status.TheVariants.{Unavailable}
use Rattle.gj_http.proofs.fixed.closing_response.Goals as goal

pub returns-in-Memory : goal.returns-in-Memory
returns-in-Memory c = closing-memory ∙ ap (λ which. bytes_of Unavailable (fixed_text which) true) (sym c.in-Memory.is)

pub returns-in-NotAccepted : goal.returns-in-NotAccepted
returns-in-NotAccepted c = closing-not_accepted ∙ ap (λ which. bytes_of Unavailable (fixed_text which) true) (sym c.in-NotAccepted.is)

pub returns-in-Accepted : goal.returns-in-Accepted
returns-in-Accepted c = closing-accepted ∙ ap (λ which. bytes_of Unavailable (fixed_text which) true) (sym c.in-Accepted.is)

pub returns-in-NoLook : goal.returns-in-NoLook
returns-in-NoLook c = closing-no_look ∙ ap (λ which. bytes_of Unavailable (fixed_text which) true) (sym c.in-NoLook.is)
