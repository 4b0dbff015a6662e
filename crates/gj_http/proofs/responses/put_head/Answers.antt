use Rattle.std.proofs.Common.{◌++◌, codes}
use Rattle.std.specs.Fmt.{decimal}
use Rattle.gj_http.specs.Response.{allow_line, connection_text, head_of, status_text}
use Rattle.gj_http.proofs.ResponseLemmas.{ended, regrouped}
use Rattle.gj_http.proofs.responses.put_head.Goals as goal

pub returns : goal.returns
returns c =
    ended c.put_text-3.result c.put_text-2.new.out.items c.put_text-3.new.out.items c.last_lines.result.now
    (c.args.out.now.items ++ head_of c.args.status c.args.size c.args.close)
    c.put_text-3.ensures
    (rw (
      c.in_ok-put_text-2.ensures,
      c.in_ok-put_number.ensures,
      c.in_ok-put_text.ensures,
      c.first_lines.ensures,
      c.connection_line.ensures,
      c.last_lines.ensures,
    ) (
    regrouped c.args.out.now.items
    (codes "HTTP/1.1 " ++ status_text c.args.status ++ codes "\r\n" ++ codes "Content-Type: application/json\r\n" ++ codes "Content-Length: ")
    (decimal c.args.size) (codes "\r\n") (codes "Connection: ") (connection_text c.args.close) (allow_line c.args.status)
    ))
