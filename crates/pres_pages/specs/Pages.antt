-- The pages that a server has for whoever watches it, as the bytes of an answer of HTTP/1.1.
use Rattle.std.specs.Prelude.{ℕ, Bool, true, false, List, ◌++◌, length, Option, Some, None, bytes_eq, if◌then◌else◌, codes, decimal}
use Rattle.pres_pages.specs.declared.counts.Counts.{Counts}
use Rattle.pres_pages.specs.declared.counts.EntryCounts.{EntryCounts}
use Rattle.pres_pages.specs.declared.counts.RefusalCounts.{RefusalCounts}
use Rattle.pres_pages.specs.declared.counts.SentCounts.{SentCounts}
use Rattle.pres_pages.specs.declared.request.Page.{Page}
use Rattle.pres_pages.specs.declared.request.Page.TheVariants.{Health, Metrics}

abbrev pub Text : Type 0
Text = List ℕ

-- ---- what is asked for

abbrev page_at : Text → Option Page
page_at target = if bytes_eq target (codes "/health") then Some Health else if bytes_eq target (codes "/metrics") then Some Metrics else None

-- the page that a request of this method and this target asks for
abbrev pub page_for : Text → Text → Option Page
page_for method target = if bytes_eq method (codes "GET") then page_at target else None

-- ---- what is answered

-- an answer with this status and a body of this type
abbrev pub answer_text : Text → Text → Text → Text
answer_text status kind body =
    codes "HTTP/1.1 " ++ status ++ codes "\r\nContent-Type: " ++ kind ++ codes "\r\nContent-Length: " ++ decimal (length body)
    ++ codes "\r\nConnection: close\r\n\r\n" ++ body

-- 200 while commits are taken, and else 503
abbrev pub health_status : Bool → Text
health_status true = codes "200 OK"
health_status false = codes "503 Service Unavailable"

-- the number of the last entry, and how many sessions are open
abbrev pub health_text : Counts → Text
health_text counts = codes "{\"number\":" ++ decimal counts.number ++ codes ",\"open_sessions\":" ++ decimal counts.open_sessions ++ codes "}\n"

-- ---- metrics, in Prometheus' text format

-- what stands before the samples of a metric: its name, what it is, and its type
abbrev pub head_text : Text → Text → Text → Text
head_text name about kind =
    codes "# HELP " ++ name ++ codes " " ++ about ++ codes "\n# TYPE " ++ name ++ codes " " ++ kind ++ codes "\n"

-- a sample: what it is of, and its value
abbrev pub sample_text : Text → ℕ → Text
sample_text of value = of ++ (codes " " ++ (decimal value ++ codes "\n"))

-- a metric with one sample
abbrev pub metric_text : Text → Text → Text → ℕ → Text
metric_text name about kind value = head_text name about kind ++ sample_text name value

-- a sample of a metric with a label, which has this word
abbrev pub labelled_text : Text → Text → Text → ℕ → Text
labelled_text name label word value =
    name ++ (codes "{" ++ (label ++ (codes "=\"" ++ (word ++ (codes "\"} " ++ (decimal value ++ codes "\n"))))))

-- a sample of the entries of a kind
abbrev pub entries_sample : Text → ℕ → Text
entries_sample kind value = labelled_text (codes "presence_entries_total") (codes "kind") kind value

-- of sessions and their operations
abbrev pub sessions_text : EntryCounts → Text
sessions_text entries =
    entries_sample (codes "open") entries.opened ++ (entries_sample (codes "op") entries.written
    ++ (entries_sample (codes "again") entries.again ++ entries_sample (codes "ended") entries.ended))

-- of what sessions leave for their ends, and what was denied them
abbrev pub rows_text : EntryCounts → Text
rows_text entries =
    entries_sample (codes "left") entries.left ++ (entries_sample (codes "cancelled") entries.cancelled
    ++ entries_sample (codes "denied") entries.denied)

-- the entries since the start, by their kind
abbrev pub entries_text : EntryCounts → Text
entries_text entries =
    head_text (codes "presence_entries_total") (codes "Entries that were made since the start, by kind.") (codes "counter")
    ++ (sessions_text entries ++ (rows_text entries
    ++ (entries_sample (codes "on") entries.on ++ entries_sample (codes "off") entries.off)))

-- 1 if the server isn't well
abbrev pub unwell_now : Bool → ℕ
unwell_now true = 0
unwell_now false = 1

-- what a server is at the moment
abbrev pub gauges_text : Bool → Counts → Text
gauges_text is_well counts =
    metric_text (codes "presence_number") (codes "The number of the last entry.") (codes "gauge") counts.number
    ++ (metric_text (codes "presence_open_sessions") (codes "How many sessions are open.") (codes "gauge") counts.open_sessions
    ++ (metric_text (codes "presence_open_connections") (codes "How many connections are open.") (codes "gauge") counts.open_connections
    ++ (metric_text (codes "presence_unwell") (codes "1 while commits are refused or the server is to end, else 0.") (codes "gauge") (unwell_now is_well)
    ++ metric_text (codes "presence_file_bytes") (codes "The bytes of the file, without its write-ahead log.") (codes "gauge") counts.file_bytes)))

-- what was counted of connections and commits since the start
abbrev pub commits_text : Counts → Text
commits_text counts =
    metric_text (codes "presence_connections_total") (codes "Connections that were accepted since the start.") (codes "counter") counts.connections
    ++ (metric_text (codes "presence_commits_total") (codes "Commits that were made since the start.") (codes "counter") counts.commits
    ++ (metric_text (codes "presence_batches_total") (codes "Batches that were committed since the start; those of a group share a commit.") (codes "counter") counts.batches
    ++ metric_text (codes "presence_refused_commits_total") (codes "Commits that were refused since the start.") (codes "counter") counts.refused_commits))

-- how long what was done took
abbrev pub times_text : Counts → Text
times_text counts =
    metric_text (codes "presence_longest_commit_microseconds") (codes "The longest commit since the metrics were read last; the lock is held meanwhile.") (codes "gauge") counts.longest_commit

-- how many checkpoints were made, when the last one was, and how long one took
abbrev pub checkpoints_text : Counts → Text
checkpoints_text counts =
    metric_text (codes "presence_checkpoints_total") (codes "Checkpoints that were made since the start.") (codes "counter") counts.checkpoints
    ++ (metric_text (codes "presence_last_checkpoint_timestamp_seconds") (codes "When the last checkpoint was made, or else when the server started, in seconds since 1970.") (codes "gauge") counts.last_checkpoint
    ++ metric_text (codes "presence_longest_checkpoint_microseconds") (codes "The longest checkpoint since the metrics were read last; the lock is held meanwhile.") (codes "gauge") counts.longest_checkpoint)

-- ---- messages

-- a sample of the messages of a kind that were sent
abbrev pub sent_sample : Text → ℕ → Text
sent_sample kind value = labelled_text (codes "presence_messages_out_total") (codes "kind") kind value

-- a sample of the refusals with a code
abbrev pub refusals_sample : Text → ℕ → Text
refusals_sample code value = labelled_text (codes "presence_refusals_total") (codes "code") code value

-- those that answer a message of a session
abbrev pub answers_text : SentCounts → Text
answers_text sent =
    sent_sample (codes "reply") sent.reply ++ (sent_sample (codes "armed") sent.armed ++ (sent_sample (codes "snap") sent.snap
    ++ (sent_sample (codes "offdone") sent.off_done ++ sent_sample (codes "denied") sent.denied)))

-- all others
abbrev pub told_text : SentCounts → Text
told_text sent =
    sent_sample (codes "welcome") sent.welcome ++ (sent_sample (codes "push") sent.push
    ++ (sent_sample (codes "gone") sent.gone ++ sent_sample (codes "fault") sent.fault))

-- the messages to clients since the start, by their kind
abbrev pub sent_text : SentCounts → Text
sent_text sent =
    head_text (codes "presence_messages_out_total") (codes "Messages to clients since the start, by kind.") (codes "counter")
    ++ (answers_text sent ++ told_text sent)

-- the codes 1 to 4
abbrev pub first_codes_text : RefusalCounts → Text
first_codes_text refusals =
    refusals_sample (codes "1") refusals.bad ++ (refusals_sample (codes "2") refusals.old
    ++ (refusals_sample (codes "3") refusals.session ++ refusals_sample (codes "4") refusals.order))

-- the codes 5 to 8
abbrev pub last_codes_text : RefusalCounts → Text
last_codes_text refusals =
    refusals_sample (codes "5") refusals.full ++ (refusals_sample (codes "6") refusals.busy
    ++ (refusals_sample (codes "7") refusals.spent ++ refusals_sample (codes "8") refusals.down))

-- the messages that were refused since the start, by the code of the Fault
abbrev pub refusals_text : RefusalCounts → Text
refusals_text refusals =
    head_text (codes "presence_refusals_total") (codes "Messages that were refused since the start, by the code of the Fault.") (codes "counter")
    ++ (first_codes_text refusals ++ last_codes_text refusals)

-- what was counted of messages
abbrev pub traffic_text : Counts → Text
traffic_text counts =
    metric_text (codes "presence_messages_in_total") (codes "Messages that came from clients since the start.") (codes "counter") counts.received
    ++ (sent_text counts.sent ++ refusals_text counts.refusals)

-- all metrics of a server that is well, or isn't
abbrev pub metrics_text : Bool → Counts → Text
metrics_text is_well counts =
    gauges_text is_well counts ++ (commits_text counts ++ (entries_text counts.entries
    ++ (times_text counts ++ (checkpoints_text counts ++ traffic_text counts))))
