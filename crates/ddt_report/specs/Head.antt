-- The fixed beginning of a page. It lets in no script and nothing from elsewhere.
use Rattle.std.specs.Prelude.{ℕ, List, ◌++◌, codes}

-- where the document begins, and what browsers have to know
unfoldable pub opening_text : List ℕ
opening_text =
    codes "<!DOCTYPE html>\n"
    ++ codes "<html lang='en'>\n"
    ++ codes "<head>\n"
    ++ codes "<meta charset='utf-8'>\n"
    ++ codes "<meta name='viewport' content='width=device-width, initial-scale=1'>\n"
    ++ codes "<meta http-equiv='Content-Security-Policy' content=\"default-src 'none'; style-src 'unsafe-inline'\">\n"
    ++ codes "<title>A change of a register</title>\n"
    ++ codes "<style>\n"

-- how it is set, on a light screen and on a dark one
unfoldable pub style_text : List ℕ
style_text =
    codes ":root{color-scheme:light dark}\n"
    ++ codes ":root{--ink:#1b1b1b;--paper:#fff;--line:#c8c8c8;--soft:#5a5a5a;--head:#f0f0f0}\n"
    ++ codes ":root{--added:#d9f2dc;--removed:#fbdcdc;--changed:#fdf0cf;--wait:#e3e8f4}\n"
    ++ codes "@media(prefers-color-scheme:dark){\n"
    ++ codes ":root{--ink:#e8e8e8;--paper:#161616;--line:#4a4a4a;--soft:#bbb;--head:#262626}\n"
    ++ codes ":root{--added:#173d1d;--removed:#4d1a1a;--changed:#453713;--wait:#232d47}\n"
    ++ codes "}\n"
    ++ codes "body{font:15px/1.45 sans-serif;color:var(--ink);background:var(--paper)}\n"
    ++ codes "body{max-width:86em;margin:1.5em auto;padding:0 1.2em}\n"
    ++ codes "h1{font-size:1.6em}\n"
    ++ codes "h2{font-size:1.2em;margin:2em 0 .5em}\n"
    ++ codes "p{color:var(--soft)}\n"
    ++ codes "figure{margin:0;overflow-x:auto}\n"
    ++ codes "table{border-collapse:collapse;font:13px/1.4 monospace;display:block;overflow-x:auto}\n"
    ++ codes "th{font-family:sans-serif;text-align:left;background:var(--head)}\n"
    ++ codes "td,th{border:1px solid var(--line);padding:.25em .7em;vertical-align:top}\n"
    ++ codes ".added{background:var(--added)}\n"
    ++ codes ".removed{background:var(--removed)}\n"
    ++ codes ".changed{background:var(--changed)}\n"
    ++ codes ".wait td{background:var(--wait);padding:.8em .7em}\n"
    ++ codes ".step td:first-child{border-left:5px solid #3d85c6}\n"
    ++ codes ".wait td:first-child{border-left:5px dashed #b45f06}\n"
    ++ codes ".legend span{padding:.1em .6em;border:1px solid var(--line);margin-right:.5em;color:var(--ink)}\n"

-- its title
unfoldable pub title_text : List ℕ
title_text =
    codes "</style>\n"
    ++ codes "</head>\n"
    ++ codes "<body>\n"
    ++ codes "<h1>A change of a register</h1>\n"
