mod Inboxes
