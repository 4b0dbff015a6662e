-- The bytes of the fixed responses are what the definition of response bytes gives.
use Rattle.std.proofs.Common.{◌≡◌, true, false, codes, refl}
use Rattle.std.specs.Fmt.{digits}
use Rattle.gj_http.specs.Response.{bytes_of}
use Rattle.gj_reply.specs.FixedTexts.{fixed_text}
use Rattle.gj_reply.specs.declared.fixed.Fixed.TheVariants.{Memory, NotAccepted, Accepted, NoLook}
use Rattle.gj_reply.specs.declared.status.Status.TheVariants.{Unavailable}

pub closing-memory : codes "HTTP/1.1 503 Service Unavailable\r\nContent-Type: application/json\r\nContent-Length: 18\r\nConnection: close\r\n\r\n{\"error\":\"memory\"}" ≡ bytes_of Unavailable (fixed_text Memory) true
unfolding digits
closing-memory = refl

pub closing-not_accepted : codes "HTTP/1.1 503 Service Unavailable\r\nContent-Type: application/json\r\nContent-Length: 35\r\nConnection: close\r\n\r\n{\"error\":\"memory\",\"accepted\":false}" ≡ bytes_of Unavailable (fixed_text NotAccepted) true
unfolding digits
closing-not_accepted = refl

pub closing-accepted : codes "HTTP/1.1 503 Service Unavailable\r\nContent-Type: application/json\r\nContent-Length: 34\r\nConnection: close\r\n\r\n{\"error\":\"memory\",\"accepted\":true}" ≡ bytes_of Unavailable (fixed_text Accepted) true
unfolding digits
closing-accepted = refl

pub closing-no_look : codes "HTTP/1.1 503 Service Unavailable\r\nContent-Type: application/json\r\nContent-Length: 19\r\nConnection: close\r\n\r\n{\"error\":\"no_look\"}" ≡ bytes_of Unavailable (fixed_text NoLook) true
unfolding digits
closing-no_look = refl

pub lasting-memory : codes "HTTP/1.1 503 Service Unavailable\r\nContent-Type: application/json\r\nContent-Length: 18\r\nConnection: keep-alive\r\n\r\n{\"error\":\"memory\"}" ≡ bytes_of Unavailable (fixed_text Memory) false
unfolding digits
lasting-memory = refl

pub lasting-not_accepted : codes "HTTP/1.1 503 Service Unavailable\r\nContent-Type: application/json\r\nContent-Length: 35\r\nConnection: keep-alive\r\n\r\n{\"error\":\"memory\",\"accepted\":false}" ≡ bytes_of Unavailable (fixed_text NotAccepted) false
unfolding digits
lasting-not_accepted = refl

pub lasting-accepted : codes "HTTP/1.1 503 Service Unavailable\r\nContent-Type: application/json\r\nContent-Length: 34\r\nConnection: keep-alive\r\n\r\n{\"error\":\"memory\",\"accepted\":true}" ≡ bytes_of Unavailable (fixed_text Accepted) false
unfolding digits
lasting-accepted = refl

pub lasting-no_look : codes "HTTP/1.1 503 Service Unavailable\r\nContent-Type: application/json\r\nContent-Length: 19\r\nConnection: keep-alive\r\n\r\n{\"error\":\"no_look\"}" ≡ bytes_of Unavailable (fixed_text NoLook) false
unfolding digits
lasting-no_look = refl
