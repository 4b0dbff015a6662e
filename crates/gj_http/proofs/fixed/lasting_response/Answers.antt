use Rattle.std.proofs.Common.{ap, sym, ◌∙◌, false}
use Rattle.gj_http.specs.Response.{bytes_of}
use Rattle.gj_http.proofs.FixedLemmas.{lasting-memory, lasting-not_accepted, lasting-accepted, lasting-no_look}
use Rattle.gj_reply.specs.FixedTexts.{fixed_text}
use Rattle.gj_reply.specs.declared.status.Status.TheVariants.{Unavailable}
use Rattle.gj_http.proofs.fixed.lasting_response.Goals as goal

pub returns-in-Memory : goal.returns-in-Memory
returns-in-Memory c = lasting-memory ∙ ap (λ which. bytes_of Unavailable (fixed_text which) false) (sym c.in-Memory.is)

pub returns-in-NotAccepted : goal.returns-in-NotAccepted
returns-in-NotAccepted c = lasting-not_accepted ∙ ap (λ which. bytes_of Unavailable (fixed_text which) false) (sym c.in-NotAccepted.is)

pub returns-in-Accepted : goal.returns-in-Accepted
returns-in-Accepted c = lasting-accepted ∙ ap (λ which. bytes_of Unavailable (fixed_text which) false) (sym c.in-Accepted.is)

pub returns-in-NoLook : goal.returns-in-NoLook
returns-in-NoLook c = lasting-no_look ∙ ap (λ which. bytes_of Unavailable (fixed_text which) false) (sym c.in-NoLook.is)
