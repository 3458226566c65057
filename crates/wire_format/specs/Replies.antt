-- How replies are spelled.
use Rattle.std.specs.Prelude.{List, [], ◌∷◌}
use Rattle.packet_bodies.specs.declared.OpenedReply.{OpenedReply}
use Rattle.packet_bodies.specs.declared.ValueReply.{ValueReply}
use Rattle.packet_bodies.specs.declared.ReplyBody.{ReplyBody}
use Rattle.packet_bodies.specs.declared.ReplyBody.TheVariants as replies
use Rattle.wire_format.specs.Codec.{Codec, number32, number64, text, optional, nothing, Shape, form, Row, row, tagged, ◌before◌, made_of}
use Rattle.wire_format.specs.Names.{errno}
use Rattle.wire_format.specs.Objects.{path, grant, flushed, target}

abbrev pub opened_reply : Codec OpenedReply
opened_reply = made_of (target before optional grant before number32)
    (λ p. record { object = p.0; grant = p.1.0; size = p.1.1 })
    (λ r. (r.object, (r.grant, r.size)))

abbrev pub value_reply : Codec ValueReply
value_reply = made_of (number64 before number64 before text)
    (λ p. record { first = p.0; second = p.1.0; bytes = p.1.1 })
    (λ r. (r.first, (r.second, r.bytes)))

-- 12 forms, each with its number before its fields
abbrev pub reply_shape : ReplyBody → Shape
reply_shape replies.Done = form 1 nothing tt
reply_shape (replies.Here x) = form 2 path x
reply_shape (replies.Refused x) = form 3 errno x
reply_shape (replies.Redirect x) = form 4 path x
reply_shape (replies.Opened x) = form 5 opened_reply x
reply_shape (replies.Value x) = form 6 value_reply x
reply_shape (replies.Again x) = form 7 grant x
reply_shape (replies.Block x y) = form 8 (number32 before text) (x, y)
reply_shape (replies.Flushed x) = form 9 flushed x
reply_shape (replies.Moved x y) = form 10 (optional grant before number32) (x, y)
reply_shape (replies.Page x) = form 11 text x
reply_shape replies.Gone = form 12 nothing tt

-- what is read behind the numbers from 7 on
abbrev pub later_rows : List (Row ReplyBody)
later_rows =
    row 7 grant replies.Again ∷
    row 8 (number32 before text) (λ p. replies.Block p.0 p.1) ∷
    row 9 flushed replies.Flushed ∷
    row 10 (optional grant before number32) (λ p. replies.Moved p.0 p.1) ∷
    row 11 text replies.Page ∷
    row 12 nothing (λ x. replies.Gone) ∷
    []

abbrev pub reply_rows : List (Row ReplyBody)
reply_rows =
    row 1 nothing (λ x. replies.Done) ∷
    row 2 path replies.Here ∷
    row 3 errno replies.Refused ∷
    row 4 path replies.Redirect ∷
    row 5 opened_reply replies.Opened ∷
    row 6 value_reply replies.Value ∷
    later_rows

abbrev pub reply : Codec ReplyBody
reply = tagged reply_shape reply_rows
