use Rattle.std.proofs.Common.{string_bytes, sym, ap, ◌∙◌}
use Rattle.requests.specs.Commands.{asked}
use Rattle.replies.specs.Replies.{reply_of}
use Rattle.replies.specs.Vectors.{vectors_text}
use Rattle.replies.proofs.Texts.{made_as}
use Rattle.replies.proofs.answer.reply.Goals as goal

pub returns-in-Vectors : goal.returns-in-Vectors
returns-in-Vectors c =
    made_as c.vectors_text.result string_bytes
    (ap (vectors_text c.in-Vectors.polynomial) c.deref.ensures.value ∙ ap (λ q. reply_of (asked q)) (sym c.in-Vectors.is))
    c.vectors_text.ensures
