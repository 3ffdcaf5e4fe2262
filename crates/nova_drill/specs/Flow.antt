-- The workflow of the drill: a log of requests, pages with their tags, and four tasks, one of each pattern.
use Rattle.std.specs.Prelude.{ℕ, List, [], ◌∷◌, ◌++◌, codes}

abbrev line : List ℕ → List ℕ → List ℕ
line text rest = text ++ 10 ∷ rest

abbrev pub flow_text : List ℕ
flow_text =
    line (codes "[[channel]]") (
    line (codes "name = \"raw\"") (
    line (codes "columns = [\"id long\", \"url chararray\", \"ms long\"]") (
    line (codes "key = [\"id\"]") (
    line (codes "[[channel]]") (
    line (codes "name = \"pages\"") (
    line (codes "columns = [\"url chararray\", \"tag chararray\"]") (
    line (codes "key = [\"url\"]") (
    line (codes "[[channel]]") (
    line (codes "name = \"slow\"") (
    line (codes "columns = [\"id long\", \"url chararray\", \"ms long\"]") (
    line (codes "key = [\"id\"]") (
    line (codes "[[channel]]") (
    line (codes "name = \"tagged\"") (
    line (codes "columns = [\"id long\", \"tag chararray\", \"ms long\"]") (
    line (codes "key = [\"id\"]") (
    line (codes "[[channel]]") (
    line (codes "name = \"stats\"") (
    line (codes "columns = [\"tag chararray\", \"n long\", \"total long\", \"worst long\"]") (
    line (codes "key = [\"tag\"]") (
    line (codes "[[channel]]") (
    line (codes "name = \"report\"") (
    line (codes "columns = [\"n long\", \"tags long\"]") (
    line (codes "key = [\"n\"]") (
    line (codes "[[task]]") (
    line (codes "name = \"pick\"") (
    line (codes "script = \"r = LOAD 'raw'; s = FILTER r BY ms >= 100; STORE s INTO 'slow';\"") (
    line (codes "inputs = [\"raw NEW\"]") (
    line (codes "output = \"slow DELTA\"") (
    line (codes "[[task]]") (
    line (codes "name = \"tag\"") (
    line (codes "script = \"s = LOAD 'slow'; p = LOAD 'pages'; j = JOIN s BY url, p BY url; t = FOREACH j GENERATE id, tag, ms; STORE t INTO 'tagged';\"") (
    line (codes "inputs = [\"slow NEW\", \"pages ALL\"]") (
    line (codes "output = \"tagged DELTA\"") (
    line (codes "[[task]]") (
    line (codes "name = \"count\"") (
    line (codes "script = \"t = LOAD 'tagged'; g = GROUP t BY tag; c = FOREACH g GENERATE group, COUNT(t), SUM(t.ms), MAX(t.ms); STORE c INTO 'stats';\"") (
    line (codes "inputs = [\"tagged NEW\"]") (
    line (codes "output = \"stats DELTA\"") (
    line (codes "[[task]]") (
    line (codes "name = \"sum\"") (
    line (codes "script = \"s = LOAD 'stats'; g = GROUP s BY n; r = FOREACH g GENERATE group, COUNT(s); STORE r INTO 'report';\"") (
    line (codes "inputs = [\"stats ALL\"]") (
    line (codes "output = \"report BASE\"") (
    line (codes "trigger = \"every 60\"") (
    [])))))))))))))))))))))))))))))))))))))))))))))
